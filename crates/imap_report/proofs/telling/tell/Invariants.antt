use Rattle.std.proofs.Common.{◌≡◌, false, length}
use Rattle.imap_report.specs.Report.{Told}
use Rattle.imap_report.proofs.telling.tell.Given as goal

abbrev pub invariant-turns : goal.invariant-turns
invariant-turns g l = record {
  told : Told (g.T.Wording.words l.wording) l.fn.feed l.feed (g.W.Sink.contents l.fn.writer) (g.W.Sink.contents l.writer);
  on : g.W.Sink.has_failed l.writer ≡ false;
}

abbrev pub decreases-turns : goal.decreases-turns
decreases-turns g l = length l.feed
