-- What the first byte says of a rule, told by the rule alone. A rule denies what begins with a byte that it can't start
-- with, so that a choice need try only those alternatives that may start so. What may take nothing may start with any
-- byte.
use Rattle.std.specs.Prelude.{ℕ, Bool, true, false, List, [], ◌∷◌, ◌||◌, ◌≡◌}
use Rattle.imap_grammar.specs.Step.{step}
use Rattle.imap_grammar.specs.Meaning.{Denies, Waits}
use Rattle.imap_grammar.specs.Rule.{Rule, meaning, tag_by, run0, run1, seq, alt, gives, tested, raw, nothing, never, many, counted}

-- whether a word may begin with a byte
abbrev pub word_starts : (ℕ → ℕ → Bool) → List ℕ → ℕ → Bool
word_starts same [] b = true
word_starts same (x ∷ word) b = same x b

abbrev pub may_start : {V : Type 0} → Rule V → ℕ → Bool
may_start (tag_by same word) b = word_starts same word b
may_start (run0 class) b = true
may_start (run1 class) b = class b
may_start (seq x y) b = may_start x b
may_start (alt x y) b = may_start x b || may_start y b
may_start (gives f x) b = may_start x b
may_start (tested f x) b = may_start x b
may_start (raw x) b = may_start x b
may_start (nothing x) b = true
may_start never b = false
may_start (many x) b = true
may_start (counted x) b = may_start x b

abbrev pub is_nonempty : List ℕ → Bool
is_nonempty [] = false
is_nonempty (b ∷ word) = true

-- whether it waits where there are no bytes
abbrev pub wants_byte : {V : Type 0} → Rule V → Bool
wants_byte (tag_by same word) = is_nonempty word
wants_byte (run0 class) = true
wants_byte (run1 class) = true
wants_byte (seq x y) = wants_byte x
wants_byte (alt x y) = wants_byte x
wants_byte (gives f x) = wants_byte x
wants_byte (tested f x) = wants_byte x
wants_byte (raw x) = wants_byte x
wants_byte (nothing x) = false
wants_byte never = false
wants_byte (many x) = wants_byte x
wants_byte (counted x) = wants_byte x

pub record Starts {V : Type 0} (r : Rule V) : Type 0 where
  pub denies : (b : ℕ) (m : List ℕ) → may_start r b ≡ false → Denies (meaning r) (b ∷ m)
  pub waits : wants_byte r ≡ true → Waits (meaning r) []

-- two rules with the same steps: A B or A C has those of A (B or C), so that A is read once
abbrev pub SameSteps : {V : Type 0} → Rule V → Rule V → Type 0
SameSteps r s = (m : List ℕ) → step r m ≡ step s m
