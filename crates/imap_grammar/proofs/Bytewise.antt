-- The steps of tags and runs are what they mean.
use Rattle.std.proofs.Common.{◌≡◌, ◌⊎◌, ℕ, zero, suc, ◌+◌, ◌<◌, ◌≤◌, Bool, true, false, List, [], ◌∷◌, ◌++◌, length, Ok, Err, refl, sym, ap, subst, true≢false, ◌∙◌, inl, inr, arith}
use Rattle.std.specs.Prelude.{slice_index, take, drop, not, nat_lt, ◌&&◌, ◌||◌}
use Rattle.std.specs.List.{zip, list_all, position_or_len}
use Rattle.std.proofs.lemmas.Bool.{lt-ltb, le-ltb, and_parts, and_from, cases_lt}
use Rattle.std.proofs.lemmas.List.{take_at, drop_at, take-append-drop, get_or_append_left, get_or-append-add, length-append, length-take, length-drop, get_or-take, get_or-drop}
use Rattle.std.proofs.lemmas.List.Sums.{position_or_len_is, fails_before_first, passes_at_first}
use Rattle.imap_grammar.specs.declared.answer.Err.{Err as Fault}
use Rattle.imap_grammar.specs.declared.answer.Err.TheVariants.{Incomplete, Error, Failure}
use Rattle.imap_grammar.specs.declared.answer.Needed.TheVariants.{Unknown, Size}
use Rattle.imap_grammar.specs.Meaning.{is_word, differs, is_begun, begins, outside, tag_fails, tag_means, RunsTo, run0_fails, run0_means, run1_fails, run1_means}
use Rattle.imap_grammar.specs.Step.{◌>>=◌, tag_step, run0_step, some_step, run1_step}
use Rattle.imap_grammar.specs.Exact.{Is}
use Rattle.imap_grammar.proofs.Steps.{ok, ok_is, bind_ok, bind_err, err_is}

not_true : (b : Bool) → b ≡ true → not b ≡ false
not_true true e = refl
not_true false e = absurd cc

not_false : (b : Bool) → b ≡ false → not b ≡ true
not_false true e = absurd cc
not_false false e = refl

from_not_false : (b : Bool) → not b ≡ false → b ≡ true
from_not_false true e = refl
from_not_false false e = absurd cc

from_not_true : (b : Bool) → not b ≡ true → b ≡ false
from_not_true true e = absurd cc
from_not_true false e = refl

-- ---- runs

pub all_at : (class : ℕ → Bool) (v : List ℕ) → list_all class v ≡ true → (k : ℕ) → k < length v → class (slice_index v k) ≡ true
all_at class [] h k lt = absurd (omega arith)
all_at class (b ∷ v) h zero lt = (and_parts _ _ h).0
all_at class (b ∷ v) h (suc k) lt = all_at class v (and_parts _ _ h).1 k (omega arith)

pub at_all : (class : ℕ → Bool) (v : List ℕ) → ((k : ℕ) → k < length v → class (slice_index v k) ≡ true) → list_all class v ≡ true
at_all class [] h = refl
at_all class (b ∷ v) h = and_from _ _ (h 0 (omega arith)) (at_all class v (λ k lt. h (suc k) (omega arith)))

pub begins_at : (p : ℕ → Bool) (rest : List ℕ) → 0 < length rest → p (slice_index rest 0) ≡ true → begins p rest ≡ true
begins_at p [] some h = absurd (omega arith)
begins_at p (b ∷ rest) some h = h

run-at : (class : ℕ → Bool) (v rest : List ℕ) → list_all class v ≡ true → begins (outside class) rest ≡ true → run0_step class (v ++ rest) ≡ Ok (rest, v)
unfolding run0_step
run-at class v [] each out = absurd cc
run-at class v (b ∷ after) each out =
    let rest : List ℕ = b ∷ after in
    let p : ℕ → Bool = outside class in
    let len = length-append v rest in
    let at : position_or_len p (v ++ rest) ≡ length v = position_or_len_is p (v ++ rest) (length v) 0 (omega arith)
    (λ k lt. rw (get_or_append_left v rest 0 k lt) (not_true _ (all_at class v each k lt)))
    (λ lt. let here = get_or-append-add v rest 0 0 in let place : length v + 0 ≡ length v = omega arith in rw (← place, here) out) in
    let within : nat_lt (length v) (length (v ++ rest)) ≡ true = lt-ltb _ _ (omega arith) in
    rw (at, within, take_at v rest (length v) refl, drop_at v rest (length v) refl) refl

pub run0-is : (class : ℕ → Bool) (m : List ℕ) → Is (run0_means class) m (run0_step class m)
unfolding run0_step
run0-is class m =
    record {
      yields = λ v rest h. rw h.0 (run-at class v rest h.1 h.2);
      yielded = λ v rest e. found v rest (cases_lt (position_or_len p m) (length m)) e;
      fails = λ d h. fails_so d h;
      failed = λ d e. failed_so d (cases_lt (position_or_len p m) (length m)) e;
      never = λ e. absurd (failed_so Failure (cases_lt (position_or_len p m) (length m)) e);
    }
  where
    p : ℕ → Bool
    p b = not (class b)

    cut : position_or_len p m < length m → run0_step class m ≡ Ok (drop (position_or_len p m) m, take (position_or_len p m) m)
    cut lt = let t : nat_lt (position_or_len p m) (length m) ≡ true = lt-ltb _ _ lt in rw t refl

    waits : length m ≤ position_or_len p m → run0_step class m ≡ Err (Incomplete Unknown)
    waits le = let t : nat_lt (position_or_len p m) (length m) ≡ false = le-ltb _ _ le in rw t refl

    found : (v rest : List ℕ) → (position_or_len p m < length m) ⊎ (length m ≤ position_or_len p m) → run0_step class m ≡ Ok (rest, v) → (run0_means class).yields m v rest
    found v rest (inl lt) e =
        let n = position_or_len p m in
        subst (λ (q : List ℕ × List ℕ). (run0_means class).yields m q.1 q.0) (ok_is (drop n m, take n m) (rest, v) (sym (cut lt) ∙ e)) (
          sym (take-append-drop n m),
          at_all class (take n m) (λ k below. let k_lt : k < n = omega (arith, length-take n m) in rw (get_or-take n m k 0 k_lt) (from_not_false _ (fails_before_first p m k 0 k_lt))),
          begins_at p (drop n m) (omega (arith, length-drop n m)) (let here = get_or-drop n m 0 0 in let place : n + 0 ≡ n = omega arith in rw (here, place) (passes_at_first p m 0 lt)),
        )
    found v rest (inr le) e = absurd (let h = sym (waits le) ∙ e in cc)

    all_in : list_all class m ≡ true → (position_or_len p m < length m) ⊎ (length m ≤ position_or_len p m) → run0_step class m ≡ Err (Incomplete Unknown)
    all_in all (inl lt) = absurd (true≢false (sym (all_at class m all (position_or_len p m) lt) ∙ from_not_true _ (passes_at_first p m 0 lt)))
    all_in all (inr le) = waits le

    fails_so : (d : Fault) → run0_fails class m d → run0_step class m ≡ Err d
    fails_so Error h = absurd h
    fails_so (Incomplete Unknown) h = all_in h (cases_lt (position_or_len p m) (length m))
    fails_so (Incomplete (Size n)) h = absurd h
    fails_so Failure h = absurd h

    failed_so : (d : Fault) → (position_or_len p m < length m) ⊎ (length m ≤ position_or_len p m) → run0_step class m ≡ Err d → run0_fails class m d
    failed_so d (inl lt) e = absurd (let h = sym (cut lt) ∙ e in cc)
    failed_so d (inr le) e = subst (run0_fails class m) (err_is (Incomplete Unknown) d (sym (waits le) ∙ e)) (at_all class m (λ k lt. from_not_false _ (fails_before_first p m k 0 (omega (arith, le, lt)))))

pub run1-is : (class : ℕ → Bool) (m : List ℕ) → Is (run1_means class) m (run1_step class m)
unfolding run1_step
run1-is class m =
    record {
      yields = λ v rest h. rw (i.yields v rest h.0) (some_found rest v h.1);
      yielded = λ v rest e.
          let b = bind_ok (run0_step class m) (λ x. some_step x.0 x.1) (rest, v) e in
          let q = some_given b.0.0 b.0.1 rest v b.2 in
          (subst (λ (p : List ℕ × List ℕ). RunsTo class m p.1 p.0) q.0 (i.yielded b.0.1 b.0.0 b.1), q.1);
      fails = λ d h. fails_so d h;
      failed = λ d e. elim (bind_err (run0_step class m) (λ x. some_step x.0 x.1) d e) [
        | inl h ↦ turned d (i.failed d h)
        | inr h ↦ let q = some_refused h.0.0 h.0.1 d h.2 in rw q.0 (first_outside h.0.0 h.0.1 q.1 (i.yielded h.0.1 h.0.0 h.1))
      ];
      never = λ e. elim (bind_err (run0_step class m) (λ x. some_step x.0 x.1) Failure e) [ inl h ↦ i.never h | inr h ↦ absurd (let q = (some_refused h.0.0 h.0.1 Failure h.2).0 in cc) ];
    }
  where
    i : Is (run0_means class) m (run0_step class m)
    i = run0-is class m

    pair : List ℕ → List ℕ → List ℕ × List ℕ
    pair k w = (k, w)

    some_found : (rest v : List ℕ) → 0 < length v → some_step rest v ≡ Ok (rest, v)
    some_found rest [] lt = absurd (omega arith)
    some_found rest (b ∷ v) lt = refl

    some_given : (k w rest v : List ℕ) → some_step k w ≡ Ok (rest, v) → (pair k w ≡ pair rest v) × (0 < length v)
    some_given k [] rest v e = absurd cc
    some_given k (b ∷ w) rest v e = let q : pair k (b ∷ w) ≡ pair rest v = ok_is (k, b ∷ w) (rest, v) e in (q, subst (λ (z : List ℕ × List ℕ). 0 < length z.1) q (omega arith))

    some_refused : (k w : List ℕ) (d : Fault) → some_step k w ≡ Err d → (d ≡ Error) × (w ≡ [])
    some_refused k [] d e = (sym (err_is Error d e), refl)
    some_refused k (b ∷ w) d e = absurd cc

    first_outside : (rest v : List ℕ) → v ≡ [] → RunsTo class m v rest → run1_fails class m Error
    first_outside rest [] e h = let same : m ≡ rest = h.0 in subst (λ k. begins (outside class) k ≡ true) (sym same) h.2
    first_outside rest (b ∷ v) e h = absurd cc

    turned : (d : Fault) → run0_fails class m d → run1_fails class m d
    turned Error h = absurd h
    turned (Incomplete Unknown) h = h
    turned (Incomplete (Size n)) h = absurd h
    turned Failure h = absurd h

    fails_so : (d : Fault) → run1_fails class m d → (run0_step class m >>= λ x. some_step x.0 x.1) ≡ Err d
    fails_so Error h = rw (i.yields [] m (refl, refl, h)) refl
    fails_so (Incomplete Unknown) h = rw (i.fails (Incomplete Unknown) h) refl
    fails_so (Incomplete (Size n)) h = absurd h
    fails_so Failure h = absurd h

-- ---- tags

not_and : (a b : Bool) → (not a || not b) ≡ not (a && b)
not_and true b = refl
not_and false b = refl

-- they are the same as far as both go
abbrev agree : (ℕ → ℕ → Bool) → List ℕ → List ℕ → Bool
agree same word m = list_all (λ p. same p.0 p.1) (zip word m)

differs_is : (same : ℕ → ℕ → Bool) (word m : List ℕ) → differs same word m ≡ not (agree same word m)
differs_is same [] [] = refl
differs_is same [] (b ∷ m) = refl
differs_is same (x ∷ word) [] = refl
differs_is same (x ∷ word) (b ∷ m) = ap (λ d. not (same x b) || d) (differs_is same word m) ∙ not_and (same x b) (agree same word m)

word_length : (same : ℕ → ℕ → Bool) (word v : List ℕ) → is_word same word v ≡ true → length v ≡ length word
word_length same [] [] h = refl
word_length same [] (b ∷ v) h = absurd cc
word_length same (x ∷ word) [] h = absurd cc
word_length same (x ∷ word) (b ∷ v) h = ap suc (word_length same word v (and_parts _ _ h).1)

word_agrees : (same : ℕ → ℕ → Bool) (word v rest : List ℕ) → is_word same word v ≡ true → agree same word (v ++ rest) ≡ true
word_agrees same [] [] [] h = refl
word_agrees same [] [] (b ∷ rest) h = refl
word_agrees same [] (b ∷ v) rest h = absurd cc
word_agrees same (x ∷ word) [] rest h = absurd cc
word_agrees same (x ∷ word) (b ∷ v) rest h = and_from _ _ (and_parts _ _ h).0 (word_agrees same word v rest (and_parts _ _ h).1)

agree_long : (same : ℕ → ℕ → Bool) (word m : List ℕ) → length word ≤ length m → agree same word m ≡ true → is_word same word (take (length word) m) ≡ true
agree_long same [] m le h = refl
agree_long same (x ∷ word) [] le h = absurd (omega arith)
agree_long same (x ∷ word) (b ∷ m) le h = and_from _ _ (and_parts _ _ h).0 (agree_long same word m (omega arith) (and_parts _ _ h).1)

agree_short : (same : ℕ → ℕ → Bool) (word m : List ℕ) → length m < length word → agree same word m ≡ true → is_begun same word m ≡ true
agree_short same [] m lt h = absurd (omega arith)
agree_short same (x ∷ word) [] lt h = refl
agree_short same (x ∷ word) (b ∷ m) lt h = and_from _ _ (and_parts _ _ h).0 (agree_short same word m (omega arith) (and_parts _ _ h).1)

begun_agrees : (same : ℕ → ℕ → Bool) (word m : List ℕ) → is_begun same word m ≡ true → (agree same word m ≡ true) × (length m < length word)
begun_agrees same [] m h = absurd cc
begun_agrees same (x ∷ word) [] h = (refl, omega arith)
begun_agrees same (x ∷ word) (b ∷ m) h =
    let tail : (agree same word m ≡ true) × (length m < length word) = begun_agrees same word m (and_parts _ _ h).1 in
    (and_from _ _ (and_parts _ _ h).0 tail.0, omega (arith, tail.1))

pub tag-is : (same : ℕ → ℕ → Bool) (word m : List ℕ) → Is (tag_means same word) m (tag_step same word m)
unfolding tag_step
tag-is same word m = go (agree same word m) refl (cases_lt (length m) (length word))
  where
    denied_not : agree same word m ≡ true → differs same word m ≡ true → ⊥
    denied_not q d = true≢false (sym d ∙ differs_is same word m ∙ not_true _ q)

    go : (q : Bool) → agree same word m ≡ q → (length m < length word) ⊎ (length word ≤ length m) → Is (tag_means same word) m (tag_step same word m)
    go false q size =
        let s : tag_step same word m ≡ Err Error = rw q refl in
        record {
          yields = λ v rest h. absurd (true≢false (sym (word_agrees same word v rest h.1) ∙ ap (agree same word) (sym h.0) ∙ q));
          yielded = λ v rest e. absurd (let f = sym s ∙ e in cc);
          fails = λ f h. fails_so f h;
          failed = λ f e. subst (tag_fails same word m) (err_is Error f (sym s ∙ e)) (differs_is same word m ∙ not_false _ q);
          never = λ e. let f = sym s ∙ e in cc;
        }
      where
        fails_so : (f : Fault) → tag_fails same word m f → tag_step same word m ≡ Err f
        fails_so Error h = rw q refl
        fails_so (Incomplete Unknown) h = absurd (true≢false (sym (begun_agrees same word m h).0 ∙ q))
        fails_so (Incomplete (Size n)) h = absurd h
        fails_so Failure h = absurd h
    go true q (inl short) =
        let t : nat_lt (length m) (length word) ≡ true = lt-ltb _ _ short in
        let s : tag_step same word m ≡ Err (Incomplete Unknown) = rw (q, t) refl in
        record {
          yields = λ v rest h. absurd (omega (arith, short, word_length same word v h.1, ap length h.0, length-append v rest));
          yielded = λ v rest e. absurd (let f = sym s ∙ e in cc);
          fails = λ f h. fails_so s f h;
          failed = λ f e. subst (tag_fails same word m) (err_is (Incomplete Unknown) f (sym s ∙ e)) (agree_short same word m short q);
          never = λ e. let f = sym s ∙ e in cc;
        }
      where
        fails_so : tag_step same word m ≡ Err (Incomplete Unknown) → (f : Fault) → tag_fails same word m f → tag_step same word m ≡ Err f
        fails_so s Error h = absurd (denied_not q h)
        fails_so s (Incomplete Unknown) h = s
        fails_so s (Incomplete (Size n)) h = absurd h
        fails_so s Failure h = absurd h
    go true q (inr long) =
        let t : nat_lt (length m) (length word) ≡ false = le-ltb _ _ long in
        let s : tag_step same word m ≡ Ok (drop (length word) m, take (length word) m) = rw (q, t) refl in
        record {
          yields = λ v rest h.
              let size = word_length same word v h.1 in
              s ∙ ap (λ (x : List ℕ). ok (drop (length word) x, take (length word) x)) h.0 ∙ rw (take_at v rest (length word) size, drop_at v rest (length word) size) refl;
          yielded = λ v rest e.
              subst (λ (p : List ℕ × List ℕ). (tag_means same word).yields m p.1 p.0) (ok_is (drop (length word) m, take (length word) m) (rest, v) (sym s ∙ e))
              (sym (take-append-drop (length word) m), agree_long same word m long q);
          fails = λ f h. absurd (fails_not f h);
          failed = λ f e. absurd (let f = sym s ∙ e in cc);
          never = λ e. let f = sym s ∙ e in cc;
        }
      where
        fails_not : (f : Fault) → ¬ (tag_fails same word m f)
        fails_not Error h = denied_not q h
        fails_not (Incomplete Unknown) h = omega (arith, long, (begun_agrees same word m h).1)
        fails_not (Incomplete (Size n)) h = h
        fails_not Failure h = h
