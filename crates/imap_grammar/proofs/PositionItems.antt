-- What each item of a list that was read keeps to: the positions that the list began and ended at.
use Rattle.std.proofs.Common.{ℕ, zero, suc, ◌+◌, ◌≤◌, List, [], ◌∷◌, length, drop, Ok, Err, ap, subst, ◌∙◌, arith, inl, inr}
use Rattle.std.specs.Prelude.{All}
use Rattle.std.specs.List.{AllByRecursion}
use Rattle.std.specs.Global.{Vec}
use Rattle.std.proofs.lemmas.List.{length-append, length-drop}
use Rattle.imap_grammar.specs.Meaning.{Meaning, Cuts, seq_means, many_means, gives_means}
use Rattle.imap_grammar.specs.Rule.{Rule, meaning, opt, ◌⨾◌}
use Rattle.imap_grammar.specs.Tags.{tag, sp}
use Rattle.imap_grammar.specs.Lists.{behind_means, list1_means, list0_means, opened_means, list_means, enclosed_means, or_memory_behind}
use Rattle.imap_grammar.specs.declared.at.span.Span.{Span}
use Rattle.imap_grammar.specs.Positions.{Reached, Lies, Ahead, Inside, EachInside}
use Rattle.imap_grammar.specs.PositionLists.{called_at, Advances, KeepsAhead, FollowsAt}
use Rattle.imap_grammar.proofs.Agreement.{shrinks}

-- what holds between two positions holds between any that are further apart
abbrev pub Widens : {O : Type 0} → (ℕ → ℕ → O → Type 0) → Type 0
Widens {O} P = (p q k e : ℕ) (x : O) → p ≤ k → e ≤ q → P k e x → P p q x

-- it holds of each value that a call gives, between the position of the call and the one that it gives
abbrev pub EachKept : {O : Type 0} → List ℕ → (ℕ → Reached O → Type 0) → (ℕ → ℕ → O → Type 0) → Type 0
EachKept {O} m answers P = (k q : ℕ) (x : O) → k ≤ length m → answers k (Ok (q, x)) → P k q x

-- it holds of each value that is yielded, between what it was read from and what it leaves, which is no longer
abbrev Keeps : {A : Type 0} → List ℕ → (ℕ → ℕ → A → Type 0) → Meaning A → Type 0
Keeps {A} m P a = (x : A) (i rest : List ℕ) (p q : ℕ) → p + length i ≤ length m → length m ≤ q + length rest → a.yields i x rest → (length rest ≤ length i) × P p q x

-- of each item of a list
abbrev each : {O : Type 0} → (ℕ → ℕ → O → Type 0) → ℕ → ℕ → List O → Type 0
each P p q vs = AllByRecursion (P p q) vs

called_keeps : {O : Type 0} (m : List ℕ) (answers : ℕ → Reached O → Type 0) (P : ℕ → ℕ → O → Type 0) → Widens P → KeepsAhead m answers → EachKept m answers P → Keeps m P (called_at m answers)
called_keeps m answers P wider keeps one x i rest p q lp lq y =
    let far = keeps.as_far y.0 y.1 x y.3 y.5 in
    let li = ap length y.2 in
    let lr = ap length y.4 in (
      omega (arith, far, li, lr, length-drop y.0 m, length-drop y.1 m),
      wider p q y.0 y.1 x (omega (arith, lp, y.3, li, length-drop y.0 m)) (omega (arith, lq, far, lr, length-drop y.1 m)) (one y.0 y.1 x y.3 y.5),
    )

behind_keeps : {S O : Type 0} (s : Rule S) (m : List ℕ) (P : ℕ → ℕ → O → Type 0) (a : Meaning O) → Keeps m P a → Keeps m P (behind_means (meaning s) a)
behind_keeps s m P a one x i rest p q lp lq y =
    let front = shrinks s i y.0.0 y.1.0 y.1.1 in
    let shorter : length y.1.0 ≤ length i = omega (arith, ap length front.1, length-append front.0 y.1.0) in
    let item = one y.0.1 y.1.0 rest p q (omega (arith, lp, shorter)) lq y.1.2 in
    (omega (arith, item.0, shorter), subst (P p q) y.2 item.1)

cuts_keep : {O : Type 0} (m : List ℕ) (P : ℕ → ℕ → O → Type 0) (a : Meaning O) → Keeps m P a → (vs : List O) (i rest : List ℕ) (p q : ℕ) → p + length i ≤ length m → length m ≤ q + length rest → Cuts a i vs rest → (length rest ≤ length i) × each P p q vs
cuts_keep m P a one [] i rest p q lp lq c = (let e = ap length c in omega (arith, e), tt)
cuts_keep m P a one (x ∷ vs) i rest p q lp lq c =
    let shorter = (one x i c.0 p (length m) lp (omega arith) c.1).0 in
    let more = cuts_keep m P a one vs c.0 rest p q (omega (arith, lp, shorter)) lq c.2 in
    let item = one x i c.0 p q lp (omega (arith, lq, more.0)) c.1 in
    (omega (arith, more.0, item.0), (item.1, more.1))

-- A, and B as often as it yields
then_many_keep : {O : Type 0} (m : List ℕ) (P : ℕ → ℕ → O → Type 0) (a b : Meaning O) → Keeps m P a → Keeps m P b → Keeps m (each P) (gives_means (λ (v : O × List O). v.0 ∷ v.1) (seq_means a (many_means b)))
then_many_keep m P a b first one vs i rest p q lp lq y =
    let shorter = (first y.0.0 i y.1.0 p (length m) lp (omega arith) y.1.1).0 in
    let more = cuts_keep m P b one y.0.1 y.1.0 rest p q (omega (arith, lp, shorter)) lq y.1.2.0 in
    let item = first y.0.0 i y.1.0 p q lp (omega (arith, lq, more.0)) y.1.1 in
    (omega (arith, more.0, item.0), subst (each P p q) y.2 (item.1, more.1))

list1_keeps : {S O : Type 0} (s : Rule S) (m : List ℕ) (P : ℕ → ℕ → O → Type 0) (a : Meaning O) → Keeps m P a → Keeps m (each P) (list1_means (meaning s) a)
list1_keeps s m P a one = then_many_keep m P a (behind_means (meaning s) a) one (behind_keeps s m P a one)

list0_keeps : {S O : Type 0} (s : Rule S) (m : List ℕ) (P : ℕ → ℕ → O → Type 0) (a : Meaning O) → Keeps m P a → Keeps m (each P) (list0_means (meaning s) a)
list0_keeps s m P a one vs i rest p q lp lq y = elim y [ inl some ↦ list1_keeps s m P a one vs i rest p q lp lq some | inr none ↦ (let e = ap length none.1.1 in omega (arith, e), subst (each P p q) none.1.0 tt) ]

enclosed_keeps : {C A : Type 0} (close : Rule C) (m : List ℕ) (P : ℕ → ℕ → A → Type 0) (a : Meaning A) → Keeps m P a → Keeps m P (enclosed_means close a)
enclosed_keeps close m P a one x i rest p q lp lq y =
    let opened = shrinks (tag "(") i y.0.0 y.1.0 y.1.1 in
    let inside = y.1.2 in
    let closed = shrinks close inside.1.0 inside.0.1 rest inside.1.2 in
    let item =
    one inside.0.0 y.1.0 inside.1.0 p q
    (omega (arith, lp, ap length opened.1, length-append opened.0 y.1.0))
    (omega (arith, lq, ap length closed.1, length-append closed.0 rest)) inside.1.1
    in
    (omega (arith, item.0, ap length opened.1, length-append opened.0 y.1.0, ap length closed.1, length-append closed.0 rest), subst (P p q) (inside.2 ∙ y.2) item.1)

-- ---- readers

advances_keep : {O : Type 0} {m : List ℕ} {answers : ℕ → Reached O → Type 0} → Advances m answers → KeepsAhead m answers
advances_keep adv = record { as_far = λ p q x le h. let far = adv.further p q x le h in (omega (arith, far), far.1) }

-- each item of a list in brackets is kept between the positions that the list began and ended at
listed_keep : {O : Type 0} {answers : ℕ → Reached O → Type 0} {m : List ℕ} {p : ℕ} (P : ℕ → ℕ → O → Type 0) (q : ℕ) (x : Vec O) → FollowsAt (λ a. or_memory_behind (opened_means a) (list_means a)) answers (λ y. y.items) m p (Ok (q, x)) → p ≤ length m → Widens P → Advances m answers → EachKept m answers P
    → each P p q x.items
listed_keep {answers = answers} {m = m} {p = p} P q x h le wider adv one =
    let called = called_keeps m answers P wider (advances_keep adv) one in
    let items = list0_keeps sp m P (called_at m answers) called in
    (enclosed_keeps (opt sp ⨾ tag ")") m (each P) (list0_means (meaning sp) (called_at m answers)) items x.items (drop p m) (drop q m) p q (omega (arith, le, length-drop p m)) (omega (arith, length-drop q m)) h.met).1

all_by_index : {O : Type 0} (P : O → Type 0) (xs : List O) → AllByRecursion P xs → All P xs
all_by_index P [] h k d lt = absurd (omega (arith, lt))
all_by_index P (x ∷ xs) h zero d lt = h.0
all_by_index P (x ∷ xs) h (suc k) d lt = all_by_index P xs h.1 k d (omega (arith, lt))

lies_wider : Widens (λ p q s. Lies p s q)
lies_wider p q k e s lp lq h = (omega (arith, lp, h.0), h.1, omega (arith, lq, h.2))

pub inside_ahead : (m : List ℕ) (p : ℕ) (r : Reached Span) → Inside m p r → Ahead m p r
inside_ahead m p (Ok x) h = (omega (arith, h.0.0, h.0.1, h.0.2), h.1)
inside_ahead m p (Err e) h = tt

-- where each span lies between the position of its call and the one that it gives, all lie in the list
pub listed_inside : {answers : ℕ → Reached Span → Type 0} {m : List ℕ} {p : ℕ} (result : Reached (Vec Span)) → FollowsAt (λ a. or_memory_behind (opened_means a) (list_means a)) answers (λ y. y.items) m p result → p ≤ length m → Advances m answers → ((k : ℕ) (r : Reached Span) → k ≤ length m → answers k r → Inside m k r)
    → EachInside p result
listed_inside {answers = answers} {m = m} (Ok x) h le adv one =
    all_by_index _ _ (listed_keep (λ p q s. Lies p s q) x.0 x.1 h le lies_wider adv (λ k q s lk y. (one k (Ok (q, s)) lk y).0))
listed_inside (Err e) h le adv one = tt
