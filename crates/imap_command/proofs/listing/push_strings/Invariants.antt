use Rattle.std.proofs.Common.{◌≡◌, ◌++◌, take}
use Rattle.std.specs.List.{flat_map}
use Rattle.imap_command.specs.Arguments.{quoted}
use Rattle.imap_command.specs.OtherWords.{behind_space}
use Rattle.imap_command.proofs.listing.push_strings.Given as goal

abbrev pub invariant-loop-string : goal.invariant-loop-string
invariant-loop-string l =
    l.out.items
    ≡ l.initial.out.items ++ flat_map (λ string. behind_space (quoted string.now)) (take l.string-index l.others)
