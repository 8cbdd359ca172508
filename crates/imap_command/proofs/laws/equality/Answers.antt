use Rattle.std.proofs.Common.{rules}
use Rattle.imap_command.proofs.laws.equality.Goals as goal

pub returns-clause-build_error : goal.returns-clause-build_error
returns-clause-build_error c = search rules depth 2
