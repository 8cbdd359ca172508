use Rattle.std.proofs.Common.{◌≡◌, false}
use Rattle.imap_proto.specs.Streams.{EndsAs}
use Rattle.imap_report.specs.Report.{NoItem}
use Rattle.imap_report.proofs.Progress.{SoFar}
use Rattle.imap_report.proofs.running.tell_items.Given as goal

abbrev pub invariant-pieces : goal.invariant-pieces
invariant-pieces g l = record {
  so_far : SoFar (g.T.Wording.words l.wording) (g.R.Source.remaining l.fn.reader) (g.R.Source.remaining l.reader) (g.W.Sink.contents l.fn.writer) (g.W.Sink.contents l.writer) l.feed l.counter;
  ends : EndsAs l.feed l.end;
  none : NoItem (g.T.Wording.words l.wording).on_denied l.feed;
  reads : g.R.Source.has_failed l.reader ≡ false;
  writes : g.W.Sink.has_failed l.writer ≡ false;
}
