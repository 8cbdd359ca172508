-- The step of each joining form is what the form means.
use Rattle.std.proofs.Common.{◌≡◌, ◌⊎◌, ℕ, ◌-◌, ◌<◌, ◌≤◌, true, false, List, ◌++◌, length, Option, Some, None, Ok, Err, refl, sym, ap, ap₂, subst, ◌∙◌, inl, inr, arith}
use Rattle.std.specs.Prelude.{◌≢◌, take, drop, nat_lt}
use Rattle.std.proofs.lemmas.Bool.{lt-ltb, le-ltb, cases_lt}
use Rattle.std.proofs.lemmas.List.{take_at, drop_at, take-append-drop, length-append, length-take}
use Rattle.imap_grammar.specs.declared.answer.Err.{Err as Fault}
use Rattle.imap_grammar.specs.declared.answer.Err.TheVariants.{Incomplete, Error, Failure}
use Rattle.imap_grammar.specs.declared.answer.Needed.TheVariants.{Size}
use Rattle.imap_grammar.specs.Meaning.{Meaning, seq_means, alt_means, gives_means, tested_means, raw_means, nothing_means, never_means, counted_means}
use Rattle.imap_grammar.specs.Step.{Step, ◌>>=◌, beside, and_then, or_else, test_step, take_step, raw_step}
use Rattle.imap_grammar.specs.Exact.{Is}
use Rattle.imap_grammar.proofs.Steps.{ok, ok_is, bad, bind_ok, bind_err, err_is}

-- what a meaning leaves is an end of what it read
abbrev pub Shrinks : {A : Type 0} → Meaning A → Type 0
Shrinks {A} a = (m : List ℕ) (v : A) (rest : List ℕ) → a.yields m v rest → (front : List ℕ) × (m ≡ front ++ rest)

pub gives-is : {A B : Type 0} (a : Meaning A) (f : A → B) (m : List ℕ) (s : Step A) → Is a m s → Is (gives_means f a) m (s >>= λ x. Ok (x.0, f x.1))
gives-is {A} {B} a f m s i =
    record {
      yields = λ v rest h. rw (i.yields h.0 rest h.1) (ap (λ w. Ok (rest, w)) h.2);
      yielded = λ v rest e.
          let b = bind_ok s (λ x. Ok (x.0, f x.1)) (rest, v) e in
          subst (λ (p : List ℕ × B). (gives_means f a).yields m p.1 p.0) (ok_is (b.0.0, f b.0.1) (rest, v) b.2) (b.0.1, i.yielded _ _ b.1, refl);
      fails = λ d h. rw (i.fails d h) refl;
      failed = λ d e. elim (bind_err s (λ x. Ok (x.0, f x.1)) d e) [ inl h ↦ i.failed d h | inr h ↦ absurd cc ];
      never = λ e. elim (bind_err s (λ x. Ok (x.0, f x.1)) Failure e) [ inl h ↦ i.never h | inr h ↦ absurd cc ];
    }

pub tested-is : {A B : Type 0} (a : Meaning A) (f : A → Option B) (m : List ℕ) (s : Step A) → Is a m s → Is (tested_means f a) m (s >>= λ x. test_step x.0 (f x.1))
tested-is {A} {B} a f m s i =
    record {
      yields = λ v rest h. rw (i.yields h.0 rest h.1, h.2) refl;
      yielded = λ v rest e.
          let b = bind_ok s (λ x. test_step x.0 (f x.1)) (rest, v) e in
          let c = tested_ok b.0.0 (f b.0.1) rest v b.2 in
          subst (λ (p : List ℕ). (tested_means f a).yields m v p) c.0 (b.0.1, i.yielded _ _ b.1, c.1);
      fails = λ d h. elim h [ inl y ↦ rw (i.fails d y) refl | inr y ↦ rw (i.yields y.1 y.2 y.3, y.4, y.0) refl ];
      failed = λ d e. elim (bind_err s (λ x. test_step x.0 (f x.1)) d e) [
        | inl h ↦ inl (i.failed d h)
        | inr h ↦ let q = tested_fault h.0.0 (f h.0.1) d h.2 in inr (q.0, h.0.1, h.0.0, i.yielded _ _ h.1, q.1)
      ];
      never = λ e. elim (bind_err s (λ x. test_step x.0 (f x.1)) Failure e) [ inl h ↦ i.never h | inr h ↦ absurd (let q = (tested_fault h.0.0 (f h.0.1) Failure h.2).0 in cc) ];
    }
  where
    tested_ok : (k : List ℕ) (o : Option B) (rest : List ℕ) (v : B) → test_step k o ≡ Ok (rest, v) → (k ≡ rest) × (o ≡ Some v)
    tested_ok k (Some w) rest v e = let p : (k, w) ≡ (rest, v) = ok_is (k, w) (rest, v) e in (ap (λ (q : List ℕ × B). q.0) p, ap (λ (q : List ℕ × B). Some q.1) p)
    tested_ok k None rest v e = absurd cc

    tested_fault : (k : List ℕ) (o : Option B) (d : Fault) → test_step k o ≡ Err d → (d ≡ Error) × (o ≡ None)
    tested_fault k (Some w) d e = absurd cc
    tested_fault k None d e = (sym (err_is Error d e), refl)

pub seq-is : {A B : Type 0} (a : Meaning A) (b : Meaning B) (m : List ℕ) (sa : Step A) (sb : List ℕ → Step B) → Is a m sa → ((k : List ℕ) → Is b k (sb k)) → Is (seq_means a b) m (and_then sa sb)
seq-is {A} {B} a b m sa sb ia ib =
    record {
      yields = λ v rest h. rw (ia.yields v.0 h.0 h.1, (ib h.0).yields v.1 rest h.2) refl;
      yielded = λ v rest e.
          let p = bind_ok sa (λ x. sb x.0 >>= beside x.1) (rest, v) e in
          let q = bind_ok (sb p.0.0) (beside p.0.1) (rest, v) p.2 in
          subst (λ (z : List ℕ × (A × B)). (seq_means a b).yields m z.1 z.0) (ok_is (q.0.0, (p.0.1, q.0.1)) (rest, v) q.2) (p.0.0, ia.yielded _ _ p.1, (ib p.0.0).yielded _ _ q.1);
      fails = λ d h. elim h [ inl y ↦ rw (ia.fails d y) refl | inr y ↦ rw (ia.yields y.0 y.1 y.2, (ib y.1).fails d y.3) refl ];
      failed = λ d e. elim (stopped d e) [ inl h ↦ inl (ia.failed d h) | inr h ↦ inr (h.0.1, h.0.0, ia.yielded _ _ h.1, (ib h.0.0).failed d h.2) ];
      never = λ e. elim (stopped Failure e) [ inl h ↦ ia.never h | inr h ↦ (ib h.0.0).never h.2 ];
    }
  where
    stopped : (d : Fault) → and_then sa sb ≡ Err d → (sa ≡ Err d) ⊎ ((x : List ℕ × A) × (sa ≡ Ok x) × (sb x.0 ≡ Err d))
    stopped d e = elim (bind_err sa (λ x. sb x.0 >>= beside x.1) d e) [
      | inl h ↦ inl h
      | inr h ↦ elim (bind_err (sb h.0.0) (beside h.0.1) d h.2) [ inl g ↦ inr (h.0, h.1, g) | inr g ↦ absurd cc ]
    ]

pub alt-is : {A : Type 0} (a b : Meaning A) (m : List ℕ) (sa sb : Step A) → Is a m sa → Is b m sb → Is (alt_means a b) m (or_else sa sb)
alt-is {A} a b m sa sb ia ib =
    record {
      yields = λ v rest h. elim h [ inl y ↦ rw (ia.yields v rest y) refl | inr y ↦ rw (ia.fails Error y.0) (ib.yields v rest y.1) ];
      yielded = λ v rest e. elim (chosen sa (rest, v) e) [ inl h ↦ inl (ia.yielded v rest h) | inr h ↦ inr (ia.failed Error h.0, ib.yielded v rest h.1) ];
      fails = λ d h. elim h [ inl y ↦ rw (ia.fails d y.0) (kept d y.1) | inr y ↦ rw (ia.fails Error y.0) (ib.fails d y.1) ];
      failed = λ d e. elim (refused sa d e) [ inl h ↦ inl (ia.failed d h.0, h.1) | inr h ↦ inr (ia.failed Error h.0, ib.failed d h.1) ];
      never = λ e. elim (refused sa Failure e) [ inl h ↦ ia.never h.0 | inr h ↦ ib.never h.1 ];
    }
  where
    kept : (d : Fault) → d ≢ Error → or_else (bad (List ℕ × A) d) sb ≡ Err d
    kept Error n = absurd (n refl)
    kept (Incomplete k) n = refl
    kept Failure n = refl

    chosen : (s : Step A) (x : List ℕ × A) → or_else s sb ≡ Ok x → (s ≡ Ok x) ⊎ ((s ≡ Err Error) × (sb ≡ Ok x))
    chosen (Ok y) x e = inl e
    chosen (Err Error) x e = inr (refl, e)
    chosen (Err (Incomplete k)) x e = absurd cc
    chosen (Err Failure) x e = absurd cc

    refused : (s : Step A) (d : Fault) → or_else s sb ≡ Err d → ((s ≡ Err d) × (d ≢ Error)) ⊎ ((s ≡ Err Error) × (sb ≡ Err d))
    refused (Ok y) d e = absurd cc
    refused (Err Error) d e = inr (refl, e)
    refused (Err (Incomplete k)) d e = inl (e, let q = err_is (Incomplete k) d e in λ n. cc)
    refused (Err Failure) d e = inl (e, let q = err_is Failure d e in λ n. cc)

-- ---- counted bytes

taken : ℕ → List ℕ → Type 0
taken k m = (length m < k) ⊎ (k ≤ length m)

take_short : (k : ℕ) (m : List ℕ) → length m < k → take_step k m ≡ Err (Incomplete (Size (k - length m)))
unfolding take_step
take_short k m lt = let t : nat_lt (length m) k ≡ true = lt-ltb _ _ lt in rw t refl

take_long : (k : ℕ) (m : List ℕ) → k ≤ length m → take_step k m ≡ Ok (drop k m, take k m)
unfolding take_step
take_long k m le = let t : nat_lt (length m) k ≡ false = le-ltb _ _ le in rw t refl

take_all_of : (v rest : List ℕ) → take_step (length v) (v ++ rest) ≡ Ok (rest, v)
take_all_of v rest = take_long (length v) (v ++ rest) (omega (arith, length-append v rest)) ∙ rw (take_at v rest (length v) refl, drop_at v rest (length v) refl) refl

pub counted-is : (a : Meaning ℕ) (m : List ℕ) (s : Step ℕ) → Is a m s → Is (counted_means a) m (s >>= λ x. take_step x.1 x.0)
counted-is a m s i =
    record {
      yields = λ v rest h. rw (i.yields (length v) h.0 h.1) (ap (take_step (length v)) h.2 ∙ take_all_of v rest);
      yielded = λ v rest e.
          let b = bind_ok s (λ x. take_step x.1 x.0) (rest, v) e in
          found b.0.1 b.0.0 v rest (i.yielded _ _ b.1) b.2 (cases_lt (length b.0.0) b.0.1);
      fails = λ d h. elim h [
        | inl l ↦ rw (i.fails d l) refl
        | inr y ↦ rw (i.yields y.0 y.1 y.2, y.4) (take_short y.0 y.1 y.3)
      ];
      failed = λ d e. elim (bind_err s (λ x. take_step x.1 x.0) d e) [
        | inl h ↦ inl (i.failed d h)
        | inr h ↦ let q = short h.0.1 h.0.0 d h.2 (cases_lt (length h.0.0) h.0.1) in inr (h.0.1, h.0.0, i.yielded _ _ h.1, q.0, q.1)
      ];
      never = λ e. elim (bind_err s (λ x. take_step x.1 x.0) Failure e) [ inl h ↦ i.never h | inr h ↦ absurd (let q = (short h.0.1 h.0.0 Failure h.2 (cases_lt (length h.0.0) h.0.1)).1 in cc) ];
    }
  where
    found : (k : ℕ) (mid v rest : List ℕ) → a.yields m k mid → take_step k mid ≡ Ok (rest, v) → (length mid < k) ⊎ (k ≤ length mid) → (counted_means a).yields m v rest
    found k mid v rest y e (inl lt) = absurd (let f = sym (take_short k mid lt) ∙ e in cc)
    found k mid v rest y e (inr le) =
        let len : length (take k mid) ≡ k = omega (arith, length-take k mid) in
        subst (λ (p : List ℕ × List ℕ). (counted_means a).yields m p.1 p.0) (ok_is (drop k mid, take k mid) (rest, v) (sym (take_long k mid le) ∙ e))
        (mid, subst (λ n. a.yields m n mid) (sym len) y, sym (take-append-drop k mid))

    short : (k : ℕ) (mid : List ℕ) (d : Fault) → take_step k mid ≡ Err d → (length mid < k) ⊎ (k ≤ length mid) → (length mid < k) × (d ≡ Incomplete (Size (k - length mid)))
    short k mid d e (inl lt) = (lt, sym (err_is (Incomplete (Size (k - length mid))) d (sym (take_short k mid lt) ∙ e)))
    short k mid d e (inr le) = absurd (let f = sym (take_long k mid le) ∙ e in cc)

pub raw-is : {A : Type 0} (a : Meaning A) (m : List ℕ) (s : Step A) → Is a m s → Shrinks a → Is (raw_means a) m (s >>= raw_step m)
raw-is {A} a m s i shrinks =
    record {
      yields = λ v rest h. rw (i.yields h.0 rest h.1) (ap (λ (k : List ℕ). ok (rest, k)) (front v rest h.2));
      yielded = λ v rest e.
          let b = bind_ok s (raw_step m) (rest, v) e in
          let y = i.yielded _ _ b.1 in
          let p = shrinks m b.0.1 b.0.0 y in
          subst (λ (q : List ℕ × List ℕ). (raw_means a).yields m q.1 q.0) (ok_is (b.0.0, take (length m - length b.0.0) m) (rest, v) b.2)
          (b.0.1, y, p.1 ∙ ap (λ (k : List ℕ). k ++ b.0.0) (sym (front p.0 b.0.0 p.1)));
      fails = λ d h. rw (i.fails d h) refl;
      failed = λ d e. elim (bind_err s (raw_step m) d e) [ inl h ↦ i.failed d h | inr h ↦ absurd cc ];
      never = λ e. elim (bind_err s (raw_step m) Failure e) [ inl h ↦ i.never h | inr h ↦ absurd cc ];
    }
  where
    front : (v rest : List ℕ) → m ≡ v ++ rest → take (length m - length rest) m ≡ v
    front v rest e =
        let n : length v ≡ length m - length rest = omega (arith, ap length e, length-append v rest) in
        ap (take (length m - length rest)) e ∙ take_at v rest (length m - length rest) n

pub never-is : {A : Type 0} (m : List ℕ) → Is (never_means {A = A}) m (Err Error)
never-is {A} m =
    record {
      yields = λ v rest h. absurd h;
      yielded = λ v rest e. absurd cc;
      fails = λ d h. rw h refl;
      failed = λ d e. sym (err_is Error d e);
      never = λ e. cc;
    }

pub nothing-is : {A : Type 0} (x : A) (m : List ℕ) → Is (nothing_means x) m (Ok (m, x))
nothing-is {A} x m =
    record {
      yields = λ v rest h. ap₂ (λ (r : List ℕ) (w : A). ok (r, w)) h.1 h.0;
      yielded = λ v rest e. let p : (m, x) ≡ (rest, v) = ok_is (m, x) (rest, v) e in (ap (λ (q : List ℕ × A). q.1) p, ap (λ (q : List ℕ × A). q.0) p);
      fails = λ d h. absurd h;
      failed = λ d e. absurd cc;
      never = λ e. cc;
    }
