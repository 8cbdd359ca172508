-- Rules are apart where canonical text begins with a byte that the earlier one may not start with.
use Rattle.std.proofs.Common.{◌≡◌, ℕ, ◌<◌, ◌^◌, Bool, true, false, not, ◌||◌, ◌==◌, [], ◌∷◌, ◌++◌, codes, decimal, ◌∙◌, ap, inl, inr, arith}
use Prim.Native.String.{String}
use Rattle.std.specs.List.{list_all}
use Rattle.std.proofs.lemmas.Bool.{false≢true, or_cases, or_left, or_right, and_parts, eqb-true, not-true}
use Rattle.std.proofs.lemmas.Bool.Decides.{nat_tests}
use Rattle.imap_grammar.specs.Classes.{is_digit}
use Rattle.imap_grammar.specs.Meaning.{Denies, differs}
use Rattle.imap_grammar.specs.Rule.{Rule, meaning, gives, ◌◃◌}
use Rattle.imap_grammar.specs.Starts.{may_start}
use Rattle.imap_grammar.specs.Text.{Bytes}
use Rattle.imap_grammar.specs.Tags.{same_letter, word}
use Rattle.imap_grammar.specs.Pieces.{Pieces, written}
use Rattle.imap_grammar.specs.ReadBack.{Apart, BeginsWith}
use Rattle.imap_grammar.proofs.Starts.{denies}
use Rattle.imap_grammar.proofs.Yields.{Yields}
use Rattle.imap_grammar.proofs.Reading.{apart-where}
use Rattle.imap_bytes.specs.Numbers.{number}
use Rattle.imap_bytes.proofs.ReadingTexts.{not_digit, number_on}
use Rattle.imap_bytes.proofs.ReadingSets.{number_bound}

-- ---- one of some bytes

abbrev pub one_of : Bytes → ℕ → Bool
one_of [] b = false
one_of (k ∷ ks) b = (b == k) || one_of ks b

-- canonical text that begins with one of them
abbrev pub StartsOneOf : {V : Type 0} → String → (V → Pieces) → V → Type 0
StartsOneOf ks c v = (t : Bytes) → BeginsWith (one_of (codes ks)) (written (c v) ++ t)

-- a rule that may start with none of them
abbrev pub none_starts : {V : Type 0} → Rule V → Bytes → Bool
none_starts a ks = list_all (λ k. not (may_start a k)) ks

starts_none : {V : Type 0} (a : Rule V) (ks : Bytes) (b : ℕ) → none_starts a ks ≡ true → one_of ks b ≡ true → may_start a b ≡ false
starts_none a [] b h is = absurd (false≢true is)
starts_none a (k ∷ ks) b h is =
    let both = and_parts (not (may_start a k)) (none_starts a ks) h in
    elim (or_cases (b == k) (one_of ks b) is) [
      | inl here ↦ ap (may_start a) (eqb-true b k here) ∙ not-true (may_start a k) both.0
      | inr later ↦ starts_none a ks b both.1 later
    ]

pub denies_one_of : {V : Type 0} (a : Rule V) (ks : String) → none_starts a (codes ks) ≡ true → (m : Bytes) → BeginsWith (one_of (codes ks)) m → Denies (meaning a) m
denies_one_of a ks h [] s = absurd (false≢true s)
denies_one_of a ks h (b ∷ m) s = denies a b m (starts_none a (codes ks) b h s)

module _ {V W : Type 0} {a : Rule V} {b : Rule W} {c : W → Pieces} {F : Bytes → Type 0} where
  pub apart_first : (ks : String) → Yields (StartsOneOf ks c) b → none_starts a (codes ks) ≡ true → Apart a b c F
  apart_first ks known none = apart-where known (λ v t start g. denies_one_of a ks none _ (start t))

-- ---- numbers

digits_one_of : (b : ℕ) → is_digit b ≡ true → one_of (codes "0123456789") b ≡ true
digits_one_of b h = grind (arith, nat_tests)

more : (ks js : Bytes) (b : ℕ) → one_of ks b ≡ true → one_of (ks ++ js) b ≡ true
more [] js b h = absurd (false≢true h)
more (k ∷ ks) js b h = elim (or_cases (b == k) (one_of ks b) h) [ inl here ↦ or_left (b == k) _ here | inr later ↦ or_right (b == k) (one_of (ks ++ js) b) (more ks js b later) ]

-- a digit is one of the digits and others
pub digit_one_of : (js : Bytes) (b : ℕ) → is_digit b ≡ true → one_of (codes "0123456789" ++ js) b ≡ true
digit_one_of js b h = more (codes "0123456789") js b (digits_one_of b h)

pub small_numbers : Yields (λ n. n < 2 ^ 32) number
small_numbers = record { each = number_bound }

-- a number before another word
pub other_behind : {V : Type 0} (f : ℕ → V) (k : String) (n : ℕ) (t : Bytes) → n < 2 ^ 32 → BeginsWith not_digit t → differs same_letter (codes k) t ≡ true → Denies (meaning (gives f (number ◃ word k))) (decimal n ++ t)
unfolding meaning number
other_behind f k n t small ends other = inr (n, t, number_on (2 ^ 32) n (omega arith) small t ends, other)
