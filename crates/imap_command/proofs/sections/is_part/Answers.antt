use Rattle.std.proofs.Common.{ℕ, ◌<◌, ◌^◌, arith}
use Rattle.std.proofs.lemmas.List.Elements.{All-from_get_or}
use Rattle.imap_command.proofs.sections.is_part.Goals as goal

pub returns-clause-in_range : goal.returns-clause-in_range
returns-clause-in_range c =
    All-from_get_or (λ (n : ℕ). n < 2 ^ 32) c.args.part.now 0 (λ i within. omega (arith, c.type_inv.part i))
