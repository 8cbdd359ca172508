-- Positions: what is left of m behind them.
use Rattle.std.proofs.Common.{◌≡◌, ◌≢◌, ℕ, ◌+◌, ◌-◌, ◌≤◌, ◌<◌, Bool, true, false, List, [], ◌∷◌, length, take, drop, min, Some, None, Ok, refl, sym, ap, ◌∙◌, inl, inr, arith}
use Rattle.std.specs.Prelude.{position, slice_get}
use Rattle.std.specs.List.{zip}
use Rattle.std.proofs.lemmas.Bool.{cases_lt}
use Rattle.std.proofs.lemmas.List.{drop-drop, drop_all, length-drop, length-take, drop_min, take_min, drop-take, take-take}
use Rattle.imap_grammar.specs.Meaning.{outside, begins}
use Rattle.imap_grammar.specs.Rule.{Rule, run1, opt, only, many, raw}
use Rattle.imap_grammar.specs.Step.{Step, step}
use Rattle.imap_grammar.specs.declared.at.span.Span.{Span}
use Rattle.imap_grammar.specs.Positions.{between, named_in}
use Rattle.imap_grammar.proofs.Consumption.{less}
use Rattle.imap_grammar.proofs.Loops.{After, after_raw}
use Rattle.imap_grammar.proofs.Runs.{run1_some}

-- n bytes from p on, as a step leaves and takes them
pub stepped : (m : List ℕ) (p n : ℕ) → (drop n (drop p m) ≡ drop (p + n) m) × (take n (drop p m) ≡ between m p (p + n))
stepped m p n = (drop-drop n p m, let e : n ≡ (p + n) - p = omega arith in ap (λ k. take k (drop p m)) e)

cut : List ℕ → List ℕ → Step (List ℕ)
cut rest v = Ok (rest, v)

pub run1_at : (class : ℕ → Bool) (m : List ℕ) (p n : ℕ) → n ≢ 0 → p + n < length m → Some n ≡ position (outside class) (drop p m) → step (run1 class) (drop p m) ≡ Ok (drop (p + n) m, between m p (p + n))
unfolding cut
run1_at class m p n ne within e =
    let s = stepped m p n in
    run1_some class (drop p m) n ne (omega (arith, length-drop p m)) e ∙ ap (λ k. cut k (take n (drop p m))) s.0 ∙ ap (cut (drop (p + n) m)) s.1

-- a position behind which less is left is further
pub further : (m : List ℕ) (p q : ℕ) → length (drop q m) < length (drop p m) → p < q
further m p q less = omega (arith, length-drop p m, length-drop q m)

-- the bytes that were taken up to q
pub raw_at : {A : Type 0} (a : Rule A) (m : List ℕ) (p q r : ℕ) → p ≤ q → q ≤ length m → After a (drop p m) (drop q m) → step (opt a) (drop q m) ≡ Ok (drop r m, None) → step (raw (many a)) (drop p m) ≡ Ok (drop q m, between m p q)
unfolding cut
raw_at a m p q r le within so_far here =
    let e : length (drop p m) - length (drop q m) ≡ q - p = omega (arith, length-drop p m, length-drop q m) in
    after_raw a (drop p m) (drop q m) (drop r m) so_far here ∙ ap (λ k. cut (drop q m) (take k (drop p m))) e

-- the bytes before `end`, and of these the ones from `start` on
front_dropped : (m : List ℕ) (start end : ℕ) → drop start (take end m) ≡ between m start end
front_dropped m start end = elim (cases_lt end start) [
  | inl lt ↦ (let none : end - start ≡ 0 = omega (arith, lt) in drop_all start (take end m) (omega (arith, lt, length-take end m)) ∙ ap (λ k. take k (drop start m)) (sym none))
  | inr le ↦ (let e : end ≡ start + (end - start) = omega (arith, le) in ap (λ k. drop start (take k m)) e ∙ drop-take start (end - start) m)
]

-- cut to what m has
pub as_far : (m front : List ℕ) (start end : ℕ) → front ≡ take (min end (length m)) m → drop (min start (min end (length m))) front ≡ between m start end
as_far m front start end e =
    let long : min end (length m) ≡ length front = omega (arith, ap length e, length-take (min end (length m)) m) in
    ap (λ k. drop (min start k) front) long ∙ drop_min start front ∙ ap (drop start) (e ∙ take_min end m) ∙ front_dropped m start end

-- ---- what a span names

-- it names the same in the bytes before q, where it ends there or before
pub named_in_front : (m : List ℕ) (s : Span) (q : ℕ) → s.start ≤ s.end → s.end ≤ q → named_in (take q m) s ≡ named_in m s
named_in_front m s q ordered le =
    let e : q ≡ s.start + (q - s.start) = omega (arith, ordered, le) in
    ap (λ k. take (s.end - s.start) (drop s.start (take k m))) e ∙ ap (take (s.end - s.start)) (drop-take s.start (q - s.start) m) ∙ take-take (s.end - s.start) (q - s.start) (drop s.start m) (omega (arith, le))

-- ---- the front of the bytes

-- as far as the word goes
pub zip_cut : (word m : List ℕ) → zip word (take (length word) m) ≡ zip word m
zip_cut [] m = refl
zip_cut (x ∷ word) [] = refl
zip_cut (x ∷ word) (b ∷ m) = ap (λ ps. (x, b) ∷ ps) (zip_cut word m)

-- a word is compared with as many bytes as it has, and the rest stands behind these
pub ruleset word_cut = (stepped, zip_cut)

pub first_is : (p : ℕ → Bool) (m : List ℕ) (b : ℕ) → Some b ≡ slice_get m 0 → begins p m ≡ p b
first_is p [] b e = absurd cc
first_is p (c ∷ m) b e = let same : b ≡ c = cc in ap p (sym same)

pub no_first : (p : ℕ → Bool) (m : List ℕ) → None ≡ slice_get m 0 → begins p m ≡ false
no_first p [] e = refl
no_first p (c ∷ m) e = absurd cc

-- a test that keeps a value keeps it as it is
pub kept_self : (p : List ℕ → Bool) (bytes text : List ℕ) → Some text ≡ only p bytes → only p bytes ≡ Some bytes
kept_self p bytes text e = go (p bytes) refl
  where
    go : (b : Bool) → p bytes ≡ b → only p bytes ≡ Some bytes
    go true h = rw h refl
    go false h = absurd (let none : only p bytes ≡ None = rw h refl in let q = e ∙ none in cc)

-- a step that leaves what is behind n bytes, at a position
pub found_further : {V : Type 0} (f : List ℕ → Step V) (m i : List ℕ) (p n : ℕ) (v : V) → i ≡ drop p m → f i ≡ Ok (drop n i, v) → f (drop p m) ≡ Ok (drop (p + n) m, v)
found_further {V = V} f m i p n v is e = ap f (sym is) ∙ e ∙ ap left (ap (drop n) is ∙ (stepped m p n).0)
  where
    left : List ℕ → Step V
    left k = Ok (k, v)
