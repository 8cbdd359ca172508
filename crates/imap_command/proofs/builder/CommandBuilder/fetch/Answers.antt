use Rattle.std.proofs.Common.{refl}
use Rattle.imap_command.proofs.builder.CommandBuilder.fetch.Goals as goal

pub returns : goal.returns
returns c = record { leads = refl; text = rw (c.with_text.ensures) c.in_ok-args.ensures.items }
