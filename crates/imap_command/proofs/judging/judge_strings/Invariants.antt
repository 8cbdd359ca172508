use Rattle.std.proofs.Common.{◌≡◌, drop, map}
use Rattle.imap_command.specs.Arguments.{refusal}
use Rattle.imap_command.specs.OtherWords.{first_refusal}
use Rattle.imap_command.proofs.judging.judge_strings.Given as goal

-- no string so far is refused
abbrev pub invariant-loop-string : goal.invariant-loop-string
invariant-loop-string l =
    first_refusal refusal (map (λ text. text.now) l.strings)
    ≡ first_refusal refusal (map (λ text. text.now) (drop l.string-index l.strings))
