use Rattle.std.proofs.Common.{◌≡◌, drop}
use Rattle.imap_command.specs.Sections.{is_part}
use Rattle.imap_command.proofs.sections.is_part.Given as goal

-- no number so far is 0
abbrev pub invariant-loop-number : goal.invariant-loop-number
invariant-loop-number l = is_part l.part ≡ is_part (drop l.number-index l.part)
