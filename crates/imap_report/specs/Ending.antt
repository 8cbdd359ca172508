-- The exit status that tells how a run ended.
use Rattle.std.specs.Prelude.{ℕ, Result, Ok, Err}
use Rattle.imap_report.specs.declared.outcome.Fault.{Fault}
use Rattle.imap_report.specs.declared.outcome.Finish.{Finish}
use Rattle.imap_report.specs.declared.outcome.Finish.TheVariants.{End, Waiting, Denied}

abbrev pub status_of : Result Finish Fault → ℕ
status_of (Ok End) = 0
status_of (Ok Waiting) = 2
status_of (Ok Denied) = 3
status_of (Err fault) = 1
