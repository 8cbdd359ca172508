use Rattle.std.proofs.Common.{rules}
use Rattle.imap_report.proofs.ending.exit_of.Goals as goal

pub returns-in-Err : goal.returns-in-Err
returns-in-Err c = search rules depth 2
