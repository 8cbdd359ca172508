-- Words and runs that begin otherwise.
use Rattle.std.proofs.Common.{◌≡◌, ℕ, ◌<◌, ◌==◌, Bool, true, false, not, ◌&&◌, [], ◌∷◌, ◌++◌, length, sym, ◌∙◌, ap, ap₂, inl, inr, ◌⊎◌, arith, subst, refl}
use Rattle.std.proofs.lemmas.Bool.{false≢true, and_parts, and_from, or_left, or_right, or_cases, both_ways, cases_Bool, eqb-true, not_from_false, not-true}
use Rattle.std.proofs.lemmas.Bool.Decides.{nat_tests}
use Rattle.std.specs.List.{list_all}
use Rattle.std.specs.Char.{to_ascii_lowercase, to_ascii_uppercase}
use Rattle.imap_grammar.specs.Meaning.{is_word, differs, outside, begins}
use Rattle.imap_grammar.specs.Text.{Bytes}
use Rattle.imap_grammar.specs.Tags.{same_letter}
use Rattle.imap_grammar.specs.ReadBack.{BeginsWith}

-- ---- exact words

-- the bytes of an exact word are the word
pub exact : (k v : Bytes) → is_word ◌==◌ k v ≡ true → k ≡ v
exact [] [] h = refl
exact [] (b ∷ v) h = absurd (false≢true h)
exact (x ∷ k) [] h = absurd (false≢true h)
exact (x ∷ k) (b ∷ v) h = ap₂ (λ (c : ℕ) (l : Bytes). c ∷ l) (eqb-true x b (and_parts _ _ h).0) (exact k v (and_parts _ _ h).1)

-- no byte of a class that lacks k is k
pub apart_byte : (p : ℕ → Bool) (k b : ℕ) → p k ≡ false → p b ≡ true → not (k == b) ≡ true
apart_byte p k b h h' = elim (cases_Bool (k == b)) [ inl same ↦ absurd (both_ways (p b) (sym (ap p (eqb-true k b same)) ∙ h) h') | inr other ↦ not_from_false (k == b) other ]

-- a run that is not empty differs from a word whose first byte is not of its class
pub run-apart : (p : ℕ → Bool) (k : ℕ) (ks v t : Bytes) → p k ≡ false → list_all p v ≡ true → 0 < length v → differs ◌==◌ (k ∷ ks) (v ++ t) ≡ true
run-apart p k ks [] t h all some = absurd (omega arith)
run-apart p k ks (b ∷ v) t h all some = or_left (not (k == b)) (differs ◌==◌ ks (v ++ t)) (apart_byte p k b h (and_parts _ _ all).0)

-- ---- words in either case

pub letter : (x y : ℕ) → same_letter x y ≡ true → (y ≡ to_ascii_lowercase x) ⊎ (y ≡ to_ascii_uppercase (to_ascii_lowercase x))
letter x y h = grind (arith, nat_tests, eqb-true)

-- each letter is in the class, in both cases
abbrev pub has_cases : (ℕ → Bool) → Bytes → Bool
has_cases p k = list_all (λ x. p (to_ascii_lowercase x) && p (to_ascii_uppercase (to_ascii_lowercase x))) k

pub in_class : (p : ℕ → Bool) (x y : ℕ) → (p (to_ascii_lowercase x) && p (to_ascii_uppercase (to_ascii_lowercase x))) ≡ true → same_letter x y ≡ true → p y ≡ true
in_class p x y h s = elim (letter x y s) [ inl e ↦ ap p e ∙ (and_parts _ _ h).0 | inr e ↦ ap p e ∙ (and_parts _ _ h).1 ]

pub word_in_class : (p : ℕ → Bool) (k c : Bytes) → has_cases p k ≡ true → is_word same_letter k c ≡ true → list_all p c ≡ true
word_in_class p [] [] h a = refl
word_in_class p [] (b ∷ c) h a = absurd (false≢true a)
word_in_class p (x ∷ k) [] h a = absurd (false≢true a)
word_in_class p (x ∷ k) (b ∷ c) h a = and_from _ _ (in_class p x b (and_parts _ _ h).0 (and_parts _ _ a).0) (word_in_class p k c (and_parts _ _ h).1 (and_parts _ _ a).1)

-- a word that is denied at a run is denied behind the run wherever that ends
pub differs-again : (p : ℕ → Bool) (k v rest t : Bytes) → has_cases p k ≡ true → differs same_letter k (v ++ rest) ≡ true → BeginsWith (outside p) t → differs same_letter k (v ++ t) ≡ true
differs-again p [] v rest t h d e = absurd (false≢true d)
differs-again p (x ∷ k) (b ∷ v) rest t h d e =
    elim (or_cases (not (same_letter x b)) (differs same_letter k (v ++ rest)) d) [
      | inl here ↦ or_left _ (differs same_letter k (v ++ t)) here
      | inr later ↦ or_right (not (same_letter x b)) _ (differs-again p k v rest t (and_parts _ _ h).1 later e)
    ]
differs-again p (x ∷ k) [] rest [] h d e = absurd (false≢true e)
differs-again p (x ∷ k) [] rest (b ∷ t) h d e =
    elim (cases_Bool (same_letter x b)) [
      | inl s ↦ absurd (both_ways (p b) (not-true (p b) e) (in_class p x b (and_parts _ _ h).0 s))
      | inr s ↦ or_left _ (differs same_letter k t) (not_from_false (same_letter x b) s)
    ]

-- a word differs from what begins with a byte that has none of its first letter's cases
pub first-apart : (p : ℕ → Bool) (x : ℕ) (k : Bytes) (b : ℕ) (t : Bytes) → (p (to_ascii_lowercase x) && p (to_ascii_uppercase (to_ascii_lowercase x))) ≡ true → p b ≡ false → differs same_letter (x ∷ k) (b ∷ t) ≡ true
first-apart p x k b t h no_ = elim (cases_Bool (same_letter x b)) [
  | inl s ↦ absurd (both_ways (p b) no_ (in_class p x b h s))
  | inr s ↦ or_left _ (differs same_letter k t) (not_from_false (same_letter x b) s)
]

-- ---- runs

-- a run is cut at one place
pub same_run : (p : ℕ → Bool) (c d r s : Bytes) → list_all p c ≡ true → list_all p d ≡ true → begins (outside p) r ≡ true → begins (outside p) s ≡ true → c ++ r ≡ d ++ s → (c ≡ d) × (r ≡ s)
same_run p [] [] r s h h' b b' e = (refl, e)
same_run p [] (x ∷ d) [] s h h' b b' e = absurd (false≢true b)
same_run p [] (x ∷ d) (y ∷ r) s h h' b b' e =
    let same : y ≡ x = cc in
    absurd (both_ways (p x) (not-true _ (subst (λ z. not (p z) ≡ true) same b)) (and_parts _ _ h').0)
same_run p (x ∷ c) [] r [] h h' b b' e = absurd (false≢true b')
same_run p (x ∷ c) [] r (y ∷ s) h h' b b' e =
    let same : y ≡ x = cc in
    absurd (both_ways (p x) (not-true _ (subst (λ z. not (p z) ≡ true) same b')) (and_parts _ _ h).0)
same_run p (x ∷ c) (y ∷ d) r s h h' b b' e =
    let first : x ≡ y = cc in
    let tail : c ++ r ≡ d ++ s = cc in
    let rest = same_run p c d r s (and_parts _ _ h).1 (and_parts _ _ h').1 b b' tail in
    (ap₂ (λ (b : ℕ) (l : Bytes). b ∷ l) first rest.0, rest.1)
