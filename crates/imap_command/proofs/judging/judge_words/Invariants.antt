use Rattle.std.proofs.Common.{◌≡◌, drop, map}
use Rattle.imap_command.specs.OtherWords.{first_refusal, word_refusal}
use Rattle.imap_command.proofs.judging.judge_words.Given as goal

-- no word so far is refused
abbrev pub invariant-loop-word : goal.invariant-loop-word
invariant-loop-word l =
    first_refusal word_refusal (map (λ word. word.now) l.words)
    ≡ first_refusal word_refusal (map (λ word. word.now) (drop l.word-index l.words))
