-- What a reader of lists over positions gives to a caller, where the reader that was passed keeps the clause of a rule.
use Rattle.std.proofs.Common.{◌≡◌, ℕ, ◌≤◌, List, length, drop, map, true, Option, Ok, Err, refl, sym, subst, inl, inr}
use Rattle.std.specs.Option.{option_map}
use Rattle.std.specs.Global.{Vec}
use Rattle.imap_grammar.specs.declared.lists.Separator.{Separator}
use Rattle.imap_grammar.specs.declared.answer.Err.{Err as Fault}
use Rattle.imap_grammar.specs.declared.answer.Err.TheVariants.{Incomplete, Error, Failure}
use Rattle.imap_grammar.specs.Meaning.{Meaning, many_means}
use Rattle.imap_grammar.specs.Rule.{Rule, meaning, many, list0, list1, opt, ◌⨾◌}
use Rattle.imap_grammar.specs.Step.{Step, step}
use Rattle.imap_grammar.specs.Answer.{Stops}
use Rattle.imap_grammar.specs.Tags.{tag, sp, blanks0}
use Rattle.imap_grammar.specs.Memory.{StartsWith, FailsOnlyIf}
use Rattle.imap_grammar.specs.Lists.{or_memory_behind, separator, list1_means, list0_means, opened_means, list_means, nonempty_list_means, delimited_means, opt_opt_means, opened, list_of, nonempty_list_of, delimited, opt_opt_of}
use Rattle.imap_grammar.specs.Positions.{Reached, ExactlyAt, GivesAt, Ahead}
use Rattle.imap_grammar.specs.PositionLists.{called_at, Advances, KeepsAhead, AllowsAt, FollowsAt}
use Rattle.imap_grammar.proofs.Agreement.{agrees, stops}
use Rattle.imap_grammar.proofs.Consumption.{consumes, less}
use Rattle.imap_grammar.proofs.Positions.{further}
use Rattle.imap_grammar.proofs.Under.{Under, Kept, All, error_kept, opened_under, enclosed_under, many_under, list1_under, list0_under, opt_opt_under, starts_behind}

-- each call at a position of m gives the step of the rule there
abbrev pub KeepsAt : {O V : Type 0} → (ℕ → Reached O → Type 0) → List ℕ → (O → V) → Rule V → Type 0
KeepsAt {O} answers m v b = (p : ℕ) (r : Reached O) → p ≤ length m → answers p r → GivesAt v m r (step b (drop p m))

pub under_at : {O V : Type 0} (answers : ℕ → Reached O → Type 0) (m : List ℕ) (v : O → V) (b : Rule V) → KeepsAt answers m v b → Under Kept v (called_at m answers) (meaning b)
under_at answers m v b says = record {
  error = error_kept;
  yields = λ i x rest y.
      subst (λ k. (meaning b).yields i (v x) k) (sym y.4)
      (subst (λ k. (meaning b).yields k (v x) (drop y.1 m)) (sym y.2) ((agrees b (drop y.0 m)).yielded (v x) (drop y.1 m) (says y.0 (Ok (y.1, x)) y.3 y.5)));
  fails = λ i e o f. subst (λ k. (meaning b).fails k e) (sym f.1) (stopped (drop f.0 m) e o (says f.0 (Err e) f.2 f.3));
}
  where
    stopped : (i : List ℕ) (e : Fault) → Kept e → Stops e (step b i) → (meaning b).fails i e
    stopped i Error o f = (agrees b i).failed Error f
    stopped i (Incomplete n) o f = (agrees b i).failed (Incomplete n) f
    stopped i Failure o f = absurd (o refl)

-- where memory may run out as well, whatever this is behind
pub under_gives_at : {O A B X : Type 0} (first : Meaning O) (w : A → B) (a : Meaning A) (r : Rule B) (view : X → A) (m : List ℕ) (p : ℕ) (result : Reached X) → Under Kept w a (meaning r) → AllowsAt (or_memory_behind first a) view m p result → GivesAt (λ x. w (view x)) m result (step r (drop p m))
under_gives_at first w a r view m p (Ok x) u h = (agrees r (drop p m)).yields (w (view x.1)) (drop x.0 m) (u.yields (drop p m) (view x.1) (drop x.0 m) h)
under_gives_at first w a r view m p (Err Failure) u h = tt
under_gives_at first w a r view m p (Err Error) u h = elim h [ inl f ↦ (agrees r (drop p m)).fails Error (u.fails (drop p m) Error error_kept f) | inr q ↦ absurd (let e = q.0 in cc) ]
under_gives_at first w a r view m p (Err (Incomplete n)) u h = elim h [ inl f ↦ (agrees r (drop p m)).fails (Incomplete n) (u.fails (drop p m) (Incomplete n) (λ q. cc) f) | inr q ↦ absurd (let e = q.0 in cc) ]

pub repeated_at : {O V : Type 0} {answers : ℕ → Reached O → Type 0} {m : List ℕ} {p : ℕ} {result : Reached (Vec O)} (v : O → V) (b : Rule V)
    → FollowsAt (λ a. or_memory_behind a (many_means a)) answers (λ x. x.items) m p result → KeepsAt answers m v b → GivesAt (λ x. map v x.items) m result (step (many b) (drop p m))
unfolding meaning
repeated_at {answers = answers} {m = m} {p = p} {result = result} v b h says =
    under_gives_at (called_at m answers) (map v) (many_means (called_at m answers)) (many b) (λ x. x.items) m p result (many_under v (called_at m answers) (meaning b) (under_at answers m v b says)) h.met

pub separated_at : {O V : Type 0} {answers : ℕ → Reached O → Type 0} {m : List ℕ} {p : ℕ} {result : Reached (Vec O)} (between : Separator) (v : O → V) (b : Rule V)
    → FollowsAt (λ a. or_memory_behind a (list1_means (meaning (separator between)) a)) answers (λ x. x.items) m p result → KeepsAt answers m v b → GivesAt (λ x. map v x.items) m result (step (list1 (separator between) b) (drop p m))
unfolding meaning
separated_at {answers = answers} {m = m} {p = p} {result = result} between v b h says =
    under_gives_at (called_at m answers) (map v) (list1_means (meaning (separator between)) (called_at m answers)) (list1 (separator between) b) (λ x. x.items) m p result (list1_under (meaning (separator between)) v (called_at m answers) (meaning b) (under_at answers m v b says)) h.met

pub maybe_separated_at : {O V : Type 0} {answers : ℕ → Reached O → Type 0} {m : List ℕ} {p : ℕ} {result : Reached (Vec O)} (between : Separator) (v : O → V) (b : Rule V)
    → FollowsAt (λ a. or_memory_behind a (list0_means (meaning (separator between)) a)) answers (λ x. x.items) m p result → KeepsAt answers m v b → GivesAt (λ x. map v x.items) m result (step (list0 (separator between) b) (drop p m))
unfolding meaning
maybe_separated_at {answers = answers} {m = m} {p = p} {result = result} between v b h says =
    under_gives_at (called_at m answers) (map v) (list0_means (meaning (separator between)) (called_at m answers)) (list0 (separator between) b) (λ x. x.items) m p result (list0_under (meaning (separator between)) v (called_at m answers) (meaning b) (under_at answers m v b says)) h.met

pub listed_at : {O V : Type 0} {answers : ℕ → Reached O → Type 0} {m : List ℕ} {p : ℕ} {result : Reached (Vec O)} (v : O → V) (b : Rule V)
    → FollowsAt (λ a. or_memory_behind (opened_means a) (list_means a)) answers (λ x. x.items) m p result → KeepsAt answers m v b → GivesAt (λ x. map v x.items) m result (step (list_of b) (drop p m))
unfolding meaning
listed_at {answers = answers} {m = m} {p = p} {result = result} v b h says =
    under_gives_at (opened_means (called_at m answers)) (map v) (list_means (called_at m answers)) (list_of b) (λ x. x.items) m p result
    (enclosed_under (opt sp ⨾ tag ")") (map v) (list0_means (meaning sp) (called_at m answers)) (list0_means (meaning sp) (meaning b)) (list0_under (meaning sp) v (called_at m answers) (meaning b) (under_at answers m v b says))) h.met

pub nonempty_listed_at : {O V : Type 0} {answers : ℕ → Reached O → Type 0} {m : List ℕ} {p : ℕ} {result : Reached (Vec O)} (v : O → V) (b : Rule V)
    → FollowsAt (λ a. or_memory_behind (opened_means a) (nonempty_list_means a)) answers (λ x. x.items) m p result → KeepsAt answers m v b → GivesAt (λ x. map v x.items) m result (step (nonempty_list_of b) (drop p m))
unfolding meaning
nonempty_listed_at {answers = answers} {m = m} {p = p} {result = result} v b h says =
    under_gives_at (opened_means (called_at m answers)) (map v) (nonempty_list_means (called_at m answers)) (nonempty_list_of b) (λ x. x.items) m p result
    (enclosed_under (blanks0 ⨾ tag ")") (map v) (list1_means (meaning sp) (called_at m answers)) (list1_means (meaning sp) (meaning b)) (list1_under (meaning sp) v (called_at m answers) (meaning b) (under_at answers m v b says))) h.met

memory_aside_at : {A X : Type 0} (a : Meaning A) (view : X → A) (m : List ℕ) (p : ℕ) (result : Reached X) → AllowsAt a view m p result → AllowsAt (or_memory_behind a a) view m p result
memory_aside_at a view m p (Ok x) h = h
memory_aside_at a view m p (Err e) h = inl h

pub delimited_given_at : {O V : Type 0} {answers : ℕ → Reached O → Type 0} {m : List ℕ} {p : ℕ} {result : Reached O} (v : O → V) (b : Rule V)
    → FollowsAt delimited_means answers (λ x. x) m p result → KeepsAt answers m v b → GivesAt v m result (step (delimited b) (drop p m))
unfolding meaning
delimited_given_at {answers = answers} {m = m} {p = p} {result = result} v b h says =
    under_gives_at (delimited_means (called_at m answers)) v (delimited_means (called_at m answers)) (delimited b) (λ x. x) m p result (enclosed_under (tag ")") v (called_at m answers) (meaning b) (under_at answers m v b says)) (memory_aside_at (delimited_means (called_at m answers)) (λ x. x) m p result h.met)

pub opt_opt_given_at : {O V : Type 0} {answers : ℕ → Reached (Option O) → Type 0} {m : List ℕ} {p : ℕ} {result : Reached (Option O)} (v : O → V) (b : Rule (Option V))
    → FollowsAt opt_opt_means answers (λ x. x) m p result → KeepsAt answers m (option_map v) b → GivesAt (option_map v) m result (step (opt_opt_of b) (drop p m))
unfolding meaning
opt_opt_given_at {answers = answers} {m = m} {p = p} {result = result} v b h says =
    under_gives_at (opt_opt_means (called_at m answers)) (option_map v) (opt_opt_means (called_at m answers)) (opt_opt_of b) (λ x. x) m p result (opt_opt_under v (called_at m answers) (meaning b) (under_at answers m (option_map v) b says)) (memory_aside_at (opt_opt_means (called_at m answers)) (λ x. x) m p result h.met)

-- ---- where the reader that was passed takes no memory

-- each call at a position of m answers exactly the step of the rule there
abbrev pub KeepsExactlyAt : {O V : Type 0} → (ℕ → Reached O → Type 0) → List ℕ → (O → V) → Rule V → Type 0
KeepsExactlyAt {O} answers m v b = (p : ℕ) (r : Reached O) → p ≤ length m → answers p r → ExactlyAt v m r (step b (drop p m))

exactly_under_at : {O V : Type 0} (answers : ℕ → Reached O → Type 0) (m : List ℕ) (v : O → V) (b : Rule V) → KeepsExactlyAt answers m v b → Under All v (called_at m answers) (meaning b)
exactly_under_at answers m v b says = record {
  error = tt;
  yields = λ i x rest y.
      subst (λ k. (meaning b).yields i (v x) k) (sym y.4)
      (subst (λ k. (meaning b).yields k (v x) (drop y.1 m)) (sym y.2) ((agrees b (drop y.0 m)).yielded (v x) (drop y.1 m) (says y.0 (Ok (y.1, x)) y.3 y.5)));
  fails = λ i e o f. subst (λ k. (meaning b).fails k e) (sym f.1) ((agrees b (drop f.0 m)).failed e (says f.0 (Err e) f.2 f.3));
}

under_exactly_at : {A B X : Type 0} (w : A → B) (a : Meaning A) (r : Rule B) (view : X → A) (m : List ℕ) (p : ℕ) (result : Reached X) → Under All w a (meaning r) → AllowsAt a view m p result → ExactlyAt (λ x. w (view x)) m result (step r (drop p m))
under_exactly_at w a r view m p (Ok x) u h = (agrees r (drop p m)).yields (w (view x.1)) (drop x.0 m) (u.yields (drop p m) (view x.1) (drop x.0 m) h)
under_exactly_at w a r view m p (Err e) u h = (agrees r (drop p m)).fails e (u.fails (drop p m) e tt h)

pub delimited_exactly_at : {O V : Type 0} {answers : ℕ → Reached O → Type 0} {m : List ℕ} {p : ℕ} {result : Reached O} (v : O → V) (b : Rule V)
    → FollowsAt delimited_means answers (λ x. x) m p result → KeepsExactlyAt answers m v b → ExactlyAt v m result (step (delimited b) (drop p m))
unfolding meaning
delimited_exactly_at {answers = answers} {m = m} {p = p} {result = result} v b h says =
    under_exactly_at v (delimited_means (called_at m answers)) (delimited b) (λ x. x) m p result (enclosed_under (tag ")") v (called_at m answers) (meaning b) (exactly_under_at answers m v b says)) h.met

pub opt_opt_exactly_at : {O V : Type 0} {answers : ℕ → Reached (Option O) → Type 0} {m : List ℕ} {p : ℕ} {result : Reached (Option O)} (v : O → V) (b : Rule (Option V))
    → FollowsAt opt_opt_means answers (λ x. x) m p result → KeepsExactlyAt answers m (option_map v) b → ExactlyAt (option_map v) m result (step (opt_opt_of b) (drop p m))
unfolding meaning
opt_opt_exactly_at {answers = answers} {m = m} {p = p} {result = result} v b h says =
    under_exactly_at (option_map v) (opt_opt_means (called_at m answers)) (opt_opt_of b) (λ x. x) m p result (opt_opt_under v (called_at m answers) (meaning b) (exactly_under_at answers m (option_map v) b says)) h.met

-- the list takes some only behind its first item
pub separated_fails_at : {O V : Type 0} {answers : ℕ → Reached O → Type 0} {m : List ℕ} {p : ℕ} (between : Separator) (v : O → V) (b : Rule V) (result : Reached (Vec O))
    → FollowsAt (λ a. or_memory_behind a (list1_means (meaning (separator between)) a)) answers (λ x. x.items) m p result → KeepsExactlyAt answers m v b → FailsOnlyIf (StartsWith b (drop p m)) result
unfolding meaning
separated_fails_at between v b (Ok x) h says = tt
separated_fails_at {answers = answers} {m = m} {p = p} between v b (Err e) h says =
    let u = exactly_under_at answers m v b says in
    starts_behind v (map v) (called_at m answers) b (list1_means (meaning (separator between)) (called_at m answers)) (list1 (separator between) b) (drop p m) e u (list1_under (meaning (separator between)) v (called_at m answers) (meaning b) u) h.met

-- and a list in brackets only behind `(` and its first item
pub listed_fails_at : {O V : Type 0} {answers : ℕ → Reached O → Type 0} {m : List ℕ} {p : ℕ} (v : O → V) (b : Rule V) (result : Reached (Vec O))
    → FollowsAt (λ a. or_memory_behind (opened_means a) (list_means a)) answers (λ x. x.items) m p result → KeepsExactlyAt answers m v b → FailsOnlyIf (StartsWith (opened b) (drop p m)) result
unfolding meaning
listed_fails_at v b (Ok x) h says = tt
listed_fails_at {answers = answers} {m = m} {p = p} v b (Err e) h says =
    let u = exactly_under_at answers m v b says in
    starts_behind v (map v) (opened_means (called_at m answers)) (opened b) (list_means (called_at m answers)) (list_of b) (drop p m) e (opened_under v (called_at m answers) (meaning b) u)
    (enclosed_under (opt sp ⨾ tag ")") (map v) (list0_means (meaning sp) (called_at m answers)) (list0_means (meaning sp) (meaning b)) (list0_under (meaning sp) v (called_at m answers) (meaning b) u)) h.met

-- ---- how far the reader that was passed goes

-- a rule that takes a byte goes on
pub advances_at : {O V : Type 0} {answers : ℕ → Reached O → Type 0} {m : List ℕ} (v : O → V) (b : Rule V) → KeepsAt answers m v b → ((p : ℕ) (r : Reached O) → p ≤ length m → answers p r → Ahead m p r) → consumes b ≡ true → Advances m answers
advances_at {m = m} v b says ahead c = record {
  further = λ p q x le h. (further m p q (less b (drop p m) (drop q m) (v x) c (says p (Ok (q, x)) le h)), (ahead p (Ok (q, x)) le h).1);
}

pub keeps_ahead_at : {O : Type 0} {answers : ℕ → Reached O → Type 0} {m : List ℕ} → ((p : ℕ) (r : Reached O) → p ≤ length m → answers p r → Ahead m p r) → KeepsAhead m answers
keeps_ahead_at ahead = record { as_far = λ p q x le h. ahead p (Ok (q, x)) le h }

pub exact_at : {O V : Type 0} (m : List ℕ) (v : O → V) (s : Step V) (r : Reached O) → ExactlyAt v m r s → GivesAt v m r s
exact_at m v s (Ok x) h = h
exact_at m v s (Err e) h = stops e s h
