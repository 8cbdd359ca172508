use Rattle.std.proofs.Common.{rules}
use Rattle.imap_command.proofs.arguments.with_arguments.Goals as goal

pub returns-in_err-judge-clause-judged : goal.returns-in_err-judge-clause-judged
returns-in_err-judge-clause-judged c = search rules depth 2
