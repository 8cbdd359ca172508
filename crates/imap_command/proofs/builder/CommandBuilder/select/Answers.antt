use Rattle.std.proofs.Common.{rules}
use Rattle.imap_command.proofs.builder.CommandBuilder.select.Goals as goal

pub returns-in_err-args-clause-judged : goal.returns-in_err-args-clause-judged
returns-in_err-args-clause-judged c = search rules depth 2
