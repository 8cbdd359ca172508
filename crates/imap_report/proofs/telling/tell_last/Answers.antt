use Rattle.imap_report.proofs.Turns.{none_begun, on_err}
use Rattle.imap_report.proofs.telling.tell_last.Goals as goal

pub returns-in_err-finish-clause-begun : goal.returns-in_err-finish-clause-begun
returns-in_err-finish-clause-begun g c = on_err _ (none_begun _ _ _ _)
