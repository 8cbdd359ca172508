-- Which string it is, by the first byte.
use Rattle.std.proofs.Common.{◌≡◌, ℕ, Bool, true, false, List, [], ◌∷◌, Some, None, Ok, Err, refl, sym, inl, inr}
use Rattle.std.specs.Prelude.{◌==◌, ◌||◌}
use Rattle.std.proofs.lemmas.Bool.{or_cases, eqb-true, eqb-false, ne_eqb}
use Rattle.imap_grammar.specs.declared.answer.Err.TheVariants.{Incomplete, Error, Failure}
use Rattle.imap_grammar.specs.declared.answer.Needed.TheVariants.{Unknown}
use Rattle.imap_grammar.specs.Ascii.{quote, open_brace}
use Rattle.imap_grammar.specs.Meaning.{begins}
use Rattle.imap_grammar.specs.Rule.{opt}
use Rattle.imap_grammar.specs.Step.{Step, step, or_else}
use Rattle.imap_grammar.proofs.Starts.{denied, waited}
use Rattle.imap_bytes.specs.Strings.{quoted_part, quoted, literal, literal_header, string, nil, nstring}

denied_last : {A : Type 0} (s : Step A) → or_else s (Err Error) ≡ s
denied_last (Ok x) = refl
denied_last (Err Error) = refl
denied_last (Err Failure) = refl
denied_last (Err (Incomplete n)) = refl

other : (b k : ℕ) → (b == k) ≡ false → (k == b) ≡ false
other b k h = ne_eqb k b (λ e. eqb-false b k h (sym e))

neither : (p q : Bool) → (p || q) ≡ false → (p ≡ false) × (q ≡ false)
neither true q h = absurd cc
neither false q h = (refl, h)

no_literal : (b : ℕ) (m : List ℕ) → (b == quote) ≡ true → step literal (b ∷ m) ≡ Err Error
unfolding literal literal_header
no_literal b m h = denied literal b m (let e = eqb-true b quote h in rw e refl)

no_quoted : (b : ℕ) (m : List ℕ) → (b == quote) ≡ false → step quoted (b ∷ m) ≡ Err Error
unfolding quoted
no_quoted b m h = denied quoted b m (other b quote h)

-- no part of a quoted string's content begins with its closing quote
pub no_part : (m : List ℕ) → begins (λ b. b == quote) m ≡ true → step (opt quoted_part) m ≡ Ok (m, None)
unfolding quoted_part
no_part [] h = absurd cc
no_part (b ∷ m) h = let e = eqb-true b quote h in rw e (let none = denied quoted_part quote m refl in rw none refl)

quoted_waits : step quoted [] ≡ Err (Incomplete Unknown)
unfolding quoted
quoted_waits = waited quoted refl

literal_waits : step literal [] ≡ Err (Incomplete Unknown)
unfolding literal literal_header
literal_waits = waited literal refl

pub string_quoted : (m : List ℕ) → begins (λ b. b == quote) m ≡ true → step string m ≡ step quoted m
unfolding string
string_quoted [] h = absurd cc
string_quoted (b ∷ m) h = rw (no_literal b m h) (denied_last (step quoted (b ∷ m)))

pub string_literal : (m : List ℕ) → begins (λ b. b == quote) m ≡ false → step string m ≡ step literal m
unfolding string
string_literal [] h = rw (quoted_waits, literal_waits) refl
string_literal (b ∷ m) h = rw (no_quoted b m h) refl

no_nil : (b : ℕ) (m : List ℕ) → ((b == quote) || (b == open_brace)) ≡ true → step nil (b ∷ m) ≡ Err Error
unfolding nil
no_nil b m h = denied nil b m (elim (or_cases (b == quote) (b == open_brace) h) [ inl x ↦ (let e = eqb-true b quote x in rw e refl) | inr y ↦ (let e = eqb-true b open_brace y in rw e refl) ])

no_string : (b : ℕ) (m : List ℕ) → ((b == quote) || (b == open_brace)) ≡ false → step string (b ∷ m) ≡ Err Error
unfolding string quoted literal literal_header
no_string b m h = let p = neither (b == quote) (b == open_brace) h in denied string b m (rw (other b quote p.0, other b open_brace p.1) refl)

string_waits : step string [] ≡ Err (Incomplete Unknown)
unfolding string
string_waits = rw quoted_waits refl

waits_not : (s : Step (List ℕ)) (x : List ℕ × List ℕ) → s ≡ Ok x → s ≡ Err (Incomplete Unknown) → ⊥
waits_not s x is waits = absurd cc

denies_not : (s : Step (List ℕ)) (x : List ℕ × List ℕ) → s ≡ Ok x → s ≡ Err Error → ⊥
denies_not s x is denies = absurd cc

not_nil : (m r v : List ℕ) → step string m ≡ Ok (r, v) → step nil m ≡ Err Error
not_nil [] r v is = absurd (waits_not (step string []) (r, v) is string_waits)
not_nil (b ∷ m) r v is = by ((b == quote) || (b == open_brace)) refl
  where
    by : (opens : Bool) → ((b == quote) || (b == open_brace)) ≡ opens → step nil (b ∷ m) ≡ Err Error
    by true h = no_nil b m h
    by false h = absurd (denies_not (step string (b ∷ m)) (r, v) is (no_string b m h))

-- where a string is read, it is the nstring's
pub nstring_read : (m r v : List ℕ) → step string m ≡ Ok (r, v) → step nstring m ≡ Ok (r, Some v)
unfolding nstring
nstring_read m r v is = rw (not_nil m r v is, is) refl
