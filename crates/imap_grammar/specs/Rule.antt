-- The grammar's language: a rule is a tree of twelve forms, and its meaning is theirs.
use Rattle.std.specs.Prelude.{ℕ, Bool, List, [], ◌∷◌, Option, None, Some, cond}
use Rattle.imap_grammar.specs.Meaning.{Meaning, tag_means, run0_means, run1_means, seq_means, alt_means, gives_means, tested_means, raw_means, nothing_means, never_means, many_means, counted_means}

pub data Rule : Type 0 → Type 1 where
  tag_by : (ℕ → ℕ → Bool) → List ℕ → Rule (List ℕ)
  run0 : (ℕ → Bool) → Rule (List ℕ)
  run1 : (ℕ → Bool) → Rule (List ℕ)
  seq : {A B : Type 0} → Rule A → Rule B → Rule (A × B)
  alt : {A : Type 0} → Rule A → Rule A → Rule A
  gives : {A B : Type 0} → (A → B) → Rule A → Rule B
  tested : {A B : Type 0} → (A → Option B) → Rule A → Rule B
  raw : {A : Type 0} → Rule A → Rule (List ℕ)
  nothing : {A : Type 0} → A → Rule A
  never : {A : Type 0} → Rule A
  many : {A : Type 0} → Rule A → Rule (List A)
  counted : Rule ℕ → Rule (List ℕ)

unfoldable pub meaning : {V : Type 0} → Rule V → Meaning V
meaning (tag_by same word) = tag_means same word
meaning (run0 class) = run0_means class
meaning (run1 class) = run1_means class
meaning (seq a b) = seq_means (meaning a) (meaning b)
meaning (alt a b) = alt_means (meaning a) (meaning b)
meaning (gives f a) = gives_means f (meaning a)
meaning (tested f a) = tested_means f (meaning a)
meaning (raw a) = raw_means (meaning a)
meaning (nothing x) = nothing_means x
meaning never = never_means
meaning (many a) = many_means (meaning a)
meaning (counted a) = counted_means (meaning a)

-- x, if it passes
abbrev pub only : {A : Type 0} → (A → Bool) → A → Option A
only p x = cond (p x) (Some x) None

-- A with a test: denied where its value doesn't pass
abbrev pub test : {A : Type 0} → (A → Bool) → Rule A → Rule A
test p a = tested (only p) a

-- A, or else this value
abbrev pub otherwise : {A : Type 0} → Rule A → A → Rule A
otherwise a x = alt a (nothing x)

-- A?
abbrev pub opt : {A : Type 0} → Rule A → Rule (Option A)
opt {A} a = otherwise (gives Some a) None

infixr 25 ◌⨾◌ ◌▹◌ ◌◃◌
-- A B, with both values
abbrev pub ◌⨾◌ : {A B : Type 0} → Rule A → Rule B → Rule (A × B)
a ⨾ b = seq a b

-- A B, with B's value
abbrev pub ◌▹◌ : {A B : Type 0} → Rule A → Rule B → Rule B
◌▹◌ {A} {B} a b = gives (λ (v : A × B). v.1) (seq a b)

-- A B, with A's value
abbrev pub ◌◃◌ : {A B : Type 0} → Rule A → Rule B → Rule A
◌◃◌ {A} {B} a b = gives (λ (v : A × B). v.0) (seq a b)

infixr 20 ◌or◌
-- A / B
abbrev pub ◌or◌ : {A : Type 0} → Rule A → Rule A → Rule A
a or b = alt a b

-- A+
abbrev pub some1 : {A : Type 0} → Rule A → Rule (List A)
some1 {A} a = gives (λ (v : A × List A). v.0 ∷ v.1) (seq a (many a))

-- A by S: one or more
abbrev pub list1 : {S A : Type 0} → Rule S → Rule A → Rule (List A)
list1 {S} {A} s a = gives (λ (v : A × List A). v.0 ∷ v.1) (seq a (many (s ▹ a)))

-- A by S, maybe none
abbrev pub list0 : {S A : Type 0} → Rule S → Rule A → Rule (List A)
list0 s a = otherwise (list1 s a) []

-- A, its value dropped
abbrev pub dropped : {A : Type 0} → Rule A → Rule (Unit {0})
dropped {A} a = gives (λ (x : A). tt) a
