use Rattle.std.proofs.Common.{rules}
use Rattle.imap_report.proofs.writers.WritingSink.write.Goals as goal

pub returns-then-is_err-clause-failed : goal.returns-then-is_err-clause-failed
returns-then-is_err-clause-failed c = search rules depth 2
