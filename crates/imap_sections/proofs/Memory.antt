-- Where the path of a part takes memory: behind a digit.
use Rattle.std.proofs.Common.{◌≡◌, ℕ, ◌^◌, List, [], ◌∷◌, true, Ok, refl, inl, inr}
use Rattle.std.proofs.lemmas.Bool.{cases_Bool}
use Rattle.imap_grammar.specs.Classes.{is_digit}
use Rattle.imap_grammar.specs.Meaning.{begins}
use Rattle.imap_grammar.specs.Step.{step}
use Rattle.imap_grammar.proofs.Starts.{waited}
use Rattle.imap_bytes.specs.Numbers.{number, digits}
use Rattle.imap_bytes.proofs.Digits.{no_number}

-- a number that is read begins with a digit
pub begins_digit : (m rest : List ℕ) (n : ℕ) → step number m ≡ Ok (rest, n) → begins is_digit m ≡ true
unfolding number digits
begins_digit [] rest n h = let w = waited number refl in absurd cc
begins_digit (b ∷ m) rest n h = elim (cases_Bool (is_digit b)) [
  | inl is ↦ is
  | inr other ↦ let d = no_number (2 ^ 32) (b ∷ m) (rw other refl) in absurd cc
]
