-- Which rules take at least one byte.
use Rattle.std.proofs.Common.{◌≡◌, ℕ, ◌<◌, ◌≤◌, Bool, true, false, List, [], ◌∷◌, ◌++◌, length, Ok, ap, arith, inl, inr}
use Rattle.std.specs.Prelude.{◌&&◌, ◌||◌}
use Rattle.std.proofs.lemmas.Bool.{and_parts, or_cases}
use Rattle.std.proofs.lemmas.List.{length-append}
use Rattle.imap_grammar.specs.Meaning.{is_word}
use Rattle.imap_grammar.specs.Rule.{Rule, meaning, tag_by, run0, run1, seq, alt, gives, tested, raw, nothing, never, many, counted}
use Rattle.imap_grammar.specs.Step.{step}
use Rattle.imap_grammar.proofs.Agreement.{agrees, shrinks}

abbrev some_byte : List ℕ → Bool
some_byte [] = false
some_byte (b ∷ bytes) = true

-- a test on the rule alone
abbrev pub consumes : {V : Type 0} → Rule V → Bool
consumes (tag_by same word) = some_byte word
consumes (run0 class) = false
consumes (run1 class) = true
consumes (seq a b) = consumes a || consumes b
consumes (alt a b) = consumes a && consumes b
consumes (gives f a) = consumes a
consumes (tested f a) = consumes a
consumes (raw a) = consumes a
consumes (nothing x) = false
consumes never = true
consumes (many a) = false
consumes (counted a) = consumes a

word_takes : (same : ℕ → ℕ → Bool) (word v : List ℕ) → some_byte word ≡ true → is_word same word v ≡ true → 0 < length v
word_takes same [] v e h = absurd cc
word_takes same (x ∷ word) [] e h = absurd cc
word_takes same (x ∷ word) (b ∷ v) e h = omega arith

not_longer : (m front rest : List ℕ) → m ≡ front ++ rest → length rest ≤ length m
not_longer m front rest e = omega (arith, ap length e, length-append front rest)

pub takes : {V : Type 0} (r : Rule V) (m : List ℕ) (v : V) (rest : List ℕ) → consumes r ≡ true → (meaning r).yields m v rest → length rest < length m
unfolding meaning
takes (tag_by same word) m v rest e h = omega (arith, word_takes same word v e h.1, ap length h.0, length-append v rest)
takes (run0 class) m v rest e h = absurd cc
takes (run1 class) m v rest e h = omega (arith, h.1, ap length h.0.0, length-append v rest)
takes (seq a b) m v rest e h =
    let p = shrinks a m v.0 h.0 h.1 in
    let q = shrinks b h.0 v.1 rest h.2 in
    let le1 = not_longer m p.0 h.0 p.1 in
    let le2 = not_longer h.0 q.0 rest q.1 in
    elim (or_cases (consumes a) (consumes b) e) [
      | inl x ↦ omega (arith, takes a m v.0 h.0 x h.1, le2)
      | inr y ↦ omega (arith, takes b h.0 v.1 rest y h.2, le1)
    ]
takes (alt a b) m v rest e h = let p = and_parts (consumes a) (consumes b) e in elim h [ inl y ↦ takes a m v rest p.0 y | inr y ↦ takes b m v rest p.1 y.1 ]
takes (gives f a) m v rest e h = takes a m h.0 rest e h.1
takes (tested f a) m v rest e h = takes a m h.0 rest e h.1
takes (raw a) m v rest e h = takes a m h.0 rest e h.1
takes (nothing x) m v rest e h = absurd cc
takes never m v rest e h = absurd h
takes (many a) m v rest e h = absurd cc
takes (counted a) m v rest e h = omega (arith, takes a m (length v) h.0 e h.1, ap length h.2, length-append v rest)

pub less : {V : Type 0} (r : Rule V) (m rest : List ℕ) (v : V) → consumes r ≡ true → step r m ≡ Ok (rest, v) → length rest < length m
less r m rest v c e = takes r m v rest c ((agrees r m).yielded v rest e)
