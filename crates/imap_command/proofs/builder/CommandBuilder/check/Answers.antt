use Rattle.std.proofs.Common.{refl}
use Rattle.imap_command.proofs.builder.CommandBuilder.check.Goals as goal

pub returns : goal.returns
returns c = record { ends = tt; text = c.in_ok-args.ensures.items; next_state = refl }
