use Rattle.std.proofs.Common.{refl}
use Rattle.imap_command.proofs.builder.CommandBuilder.examine.Goals as goal

pub returns-clause-begins : goal.returns-clause-begins
returns-clause-begins c = record { leads = refl; text = rw (c.with_text.ensures) c.in_ok-args.ensures.text }
