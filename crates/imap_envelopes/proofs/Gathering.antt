-- A loop that reads one more as often as there is one, and keeps what it read.
use Rattle.std.proofs.Common.{arith, length, ◌≡◌, ◌≢◌, ℕ, ◌<◌, ◌≤◌, true, List, [], ◌∷◌, ◌++◌, map, drop, Ok, Err, refl, sym, ap, ◌∙◌, append_assoc}
use Rattle.std.proofs.lemmas.List.{append-nil, map-append}
use Rattle.imap_grammar.specs.declared.answer.Err.{Err as Fault}
use Rattle.imap_grammar.specs.declared.answer.Err.TheVariants.{Incomplete, Error, Failure}
use Rattle.imap_grammar.specs.Answer.{Stops}
use Rattle.imap_grammar.specs.Rule.{Rule, gives, opt, many, some1, ◌⨾◌}
use Rattle.imap_grammar.specs.Step.{Step, ◌>>=◌, step, beside, many_step}
use Rattle.imap_grammar.proofs.Consumption.{consumes, less}
use Rattle.imap_grammar.proofs.Loops.{onto, onto_nothing, reads_more, reads_end, after_start, after_fault}
use Rattle.imap_grammar.proofs.Positions.{further}

-- Of a list that s reads, vs were read, and the rest of it is still to be read by `more` from k on.
pub record Gathered {V : Type 0} (s : Step (List V)) (more : Rule V) (vs : List V) (k : List ℕ) : Type 0 where
  pub so_far : s ≡ onto vs (step (many more) k)

onto_first : {V : Type 0} (x : V) (s : Step (List V)) → ((s >>= beside x) >>= λ y. Ok (y.0, y.1.0 ∷ y.1.1)) ≡ onto (x ∷ []) s
onto_first x (Ok y) = refl
onto_first x (Err e) = refl

pub first : {V : Type 0} (a more : Rule V) (m k : List ℕ) (x : V) → step a m ≡ Ok (k, x) → Gathered (step (gives (λ (v : V × List V). v.0 ∷ v.1) (a ⨾ many more)) m) more (x ∷ []) k
first a more m k x e = record { so_far = rw e (onto_first x (step (many more) k)) }

onto_onto : {V : Type 0} (vs ws : List V) (s : Step (List V)) → onto vs (onto ws s) ≡ onto (vs ++ ws) s
onto_onto vs ws (Ok y) = ap (λ us. Ok (y.0, us)) (sym (append_assoc vs ws y.1))
onto_onto vs ws (Err e) = refl

pub next_one : {V : Type 0} (s : Step (List V)) (a : Rule V) (vs : List V) (k rest : List ℕ) (x : V) → Gathered s a vs k → step a k ≡ Ok (rest, x) → consumes a ≡ true → Gathered s a (vs ++ x ∷ []) rest
next_one s a vs k rest x g here c =
    let one = reads_more a k k rest [] x (onto_nothing (step (many a) k)) here (less a k rest x c here) in
    record { so_far = g.so_far ∙ ap (onto vs) one ∙ onto_onto vs (x ∷ []) (step (many a) rest) }

pub next : {A V : Type 0} (view : A → V) (s : Step (List V)) (a : Rule V) (xs : List A) (k rest : List ℕ) (x : A) → Gathered s a (map view xs) k → step a k ≡ Ok (rest, view x) → consumes a ≡ true
    → Gathered s a (map view (xs ++ x ∷ [])) rest
next view s a xs k rest x g here c = record { so_far = (next_one s a (map view xs) k rest (view x) g here c).so_far ∙ ap (λ vs. onto vs (step (many a) rest)) (sym (map-append view xs (x ∷ []))) }

pub all : {V : Type 0} (s : Step (List V)) (a : Rule V) (vs : List V) (k : List ℕ) → Gathered s a vs k → step a k ≡ Err Error → s ≡ Ok (k, vs)
all s a vs k g here = g.so_far ∙ ap (onto vs) (reads_end a k k [] (onto_nothing (step (many a) k)) here) ∙ ap (λ us. Ok (k, us)) (append-nil vs)

-- A fault other than a denial is no end.
goes_through : {V : Type 0} (a : Rule V) (k : List ℕ) (e : Fault) → e ≢ Error → step a k ≡ Err e → step (opt a) k ≡ Err e
goes_through a k Error other here = absurd (other refl)
goes_through a k (Incomplete n) other here = rw here refl
goes_through a k Failure other here = rw here refl

pub stopped : {V : Type 0} (s : Step (List V)) (a : Rule V) (vs : List V) (k : List ℕ) (e : Fault) → Gathered s a vs k → e ≢ Error → step a k ≡ Err e → s ≡ Err e
stopped s a vs k e g other here = g.so_far ∙ ap (onto vs) (after_fault a k k e (after_start a k) (goes_through a k e other here))

-- the same of a reader that may run out of memory
pub halted : {V : Type 0} (s : Step (List V)) (a : Rule V) (vs : List V) (k : List ℕ) (e : Fault) → Gathered s a vs k → e ≢ Error → Stops e (step a k) → Stops e s
halted s a vs k Error g other here = absurd (other refl)
halted s a vs k (Incomplete n) g other here = stopped s a vs k (Incomplete n) g other here
halted s a vs k Failure g other here = tt

-- ---- one or more are as many as there are, of which there is one

abbrev pub not_none : {V : Type 0} → Step (List V) → Step (List V)
not_none (Ok (k, [])) = Err Error
not_none (Ok (k, v ∷ vs)) = Ok (k, v ∷ vs)
not_none (Err e) = Err e

one_before : {V : Type 0} (x : V) (s : Step (List V)) → ((s >>= beside x) >>= λ y. Ok (y.0, y.1.0 ∷ y.1.1)) ≡ not_none (onto (x ∷ []) s)
one_before x (Ok y) = refl
one_before x (Err e) = refl

by_the_first : {V : Type 0} (a : Rule V) (m : List ℕ) (s : Step V) → step a m ≡ s → consumes a ≡ true → step (some1 a) m ≡ not_none (step (many a) m)
unfolding many_step
by_the_first a m (Ok y) is c =
    let shorter = less a m y.0 y.1 c is in
    ap (λ s. (s >>= λ x. step (many a) x.0 >>= beside x.1) >>= λ x. Ok (x.0, x.1.0 ∷ x.1.1)) is
    ∙ one_before y.1 (step (many a) y.0) ∙ sym (ap not_none (reads_more a m m y.0 [] y.1 (onto_nothing (step (many a) m)) is shorter))
by_the_first a m (Err Error) is c = rw (reads_end a m m [] (onto_nothing (step (many a) m)) is, is) refl
by_the_first a m (Err (Incomplete n)) is c = rw is refl
by_the_first a m (Err Failure) is c = rw is refl

pub some_are : {V : Type 0} (a : Rule V) (m : List ℕ) → consumes a ≡ true → step (some1 a) m ≡ not_none (step (many a) m)
some_are a m c = by_the_first a m (step a m) refl c

pub none_there : {A V : Type 0} (view : A → V) (s : Step (List V)) (k : List ℕ) (xs : List A) → length xs ≡ 0 → s ≡ Ok (k, map view xs) → not_none s ≡ Err Error
none_there view s k [] few read = rw read refl
none_there view s k (x ∷ xs) few read = absurd (omega (arith, few))

pub one_there : {A V : Type 0} (view : A → V) (s : Step (List V)) (k : List ℕ) (xs : List A) → 1 ≤ length xs → s ≡ Ok (k, map view xs) → not_none s ≡ Ok (k, map view xs)
one_there view s k [] few read = absurd (omega (arith, few))
one_there view s k (x ∷ xs) few read = rw read refl

-- what was read goes further
pub onward : {V : Type 0} (a : Rule V) (m : List ℕ) (p q : ℕ) (x : V) → step a (drop p m) ≡ Ok (drop q m, x) → consumes a ≡ true → p < q
onward a m p q x here c = further m p q (less a (drop p m) (drop q m) x c here)
