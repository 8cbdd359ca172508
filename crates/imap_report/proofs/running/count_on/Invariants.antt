use Rattle.std.proofs.Common.{◌≡◌, ◌-◌, ◌^◌, false}
use Rattle.imap_report.proofs.Progress.{Counted}
use Rattle.imap_report.proofs.running.count_on.Given as goal

abbrev pub invariant-reads : goal.invariant-reads
invariant-reads g l = record {
  counted : Counted (g.R.Source.remaining l.fn.reader) (g.R.Source.remaining l.reader) l.counted l.total;
  on : g.R.Source.has_failed l.reader ≡ false;
}

abbrev pub decreases-reads : goal.decreases-reads
decreases-reads g l = 2 ^ 64 - l.total
