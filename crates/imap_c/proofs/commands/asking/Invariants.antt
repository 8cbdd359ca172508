use Rattle.std.proofs.Common.{◌≡◌, List, map, take}
use Rattle.imap_command.specs.declared.words.Attribute.{Attribute}
use Rattle.imap_c.specs.Commands.{attribute_number, Asks}
use Rattle.imap_c.proofs.commands.asking.Given as goal

abbrev pub invariant-numbers : goal.invariant-numbers
invariant-numbers l = (asked : List Attribute) × (map attribute_number asked ≡ take l.number-index l.numbers) × Asks asked l.fn.fetch l.fetch
