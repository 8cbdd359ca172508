-- What a reader of lists gives to a caller, where the reader that was passed keeps the clause of a rule.
use Rattle.std.proofs.Common.{ℕ, List, map, Option, Ok, Err, inl, inr, subst}
use Rattle.std.specs.Borrow.{Bor}
use Rattle.std.specs.Option.{option_map}
use Rattle.std.specs.Global.{Vec}
use Rattle.imap_grammar.specs.declared.answer.Err.TheVariants.{Failure}
use Rattle.imap_grammar.specs.declared.lists.Separator.{Separator}
use Rattle.imap_grammar.specs.Meaning.{many_means}
use Rattle.imap_grammar.specs.Rule.{Rule, meaning, many, list0, list1, opt, ◌⨾◌}
use Rattle.imap_grammar.specs.Step.{step}
use Rattle.imap_grammar.specs.Answer.{Returned, Gives, Exactly}
use Rattle.imap_grammar.specs.Tags.{tag, sp, blanks0}
use Rattle.imap_grammar.specs.Memory.{StartsWith, FailsOnlyIf}
use Rattle.imap_grammar.specs.Lists.{called, Follows, or_memory_behind, separator, list1_means, list0_means, opened_means, list_means, nonempty_list_means, delimited_means, opt_opt_means, opened, list_of, nonempty_list_of, delimited, opt_opt_of}
use Rattle.imap_grammar.proofs.Under.{Keeps, KeepsExactly, kept_under, exactly_under, list1_under, list0_under, opened_under, enclosed_under, opt_opt_under, many_under, under_gives, under_exactly, memory_aside, starts_behind}

pub many_read : {O V : Type 0} {answers : List ℕ → Returned O → Type 0} {m : List ℕ} {result : Returned (Vec O)} (v : O → V) (b : Rule V)
    → Follows (λ a. or_memory_behind a (many_means a)) answers (λ x. x.items) m result → Keeps answers v b → Gives (λ x. map v x.items) result (step (many b) m)
unfolding meaning
many_read {answers = answers} {m = m} {result = result} v b h says =
    under_gives (called answers) (map v) (many_means (called answers)) (many b) (λ x. x.items) m result (many_under v (called answers) (meaning b) (kept_under answers v b says)) h.met

-- where the reader that was passed takes no memory, the list takes some only behind its first item
pub many_fails : {O V : Type 0} {answers : List ℕ → Returned O → Type 0} {m : List ℕ} (v : O → V) (b : Rule V) (result : Returned (Vec O))
    → Follows (λ a. or_memory_behind a (many_means a)) answers (λ x. x.items) m result → KeepsExactly answers v b → FailsOnlyIf (StartsWith b m) result
unfolding meaning
many_fails v b (Ok x) h says = tt
many_fails {answers = answers} {m = m} v b (Err e) h says =
    let u = exactly_under answers v b says in
    starts_behind v (map v) (called answers) b (many_means (called answers)) (many b) m e u (many_under v (called answers) (meaning b) u) h.met

pub separated_read : {O V : Type 0} {answers : List ℕ → Returned O → Type 0} {m : List ℕ} {result : Returned (Vec O)} (between : Separator) (v : O → V) (b : Rule V)
    → Follows (λ a. or_memory_behind a (list1_means (meaning (separator between)) a)) answers (λ x. x.items) m result → Keeps answers v b → Gives (λ x. map v x.items) result (step (list1 (separator between) b) m)
unfolding meaning
separated_read {answers = answers} {m = m} {result = result} between v b h says =
    under_gives (called answers) (map v) (list1_means (meaning (separator between)) (called answers)) (list1 (separator between) b) (λ x. x.items) m result (list1_under (meaning (separator between)) v (called answers) (meaning b) (kept_under answers v b says)) h.met

-- so does such a list
pub separated_fails : {O V : Type 0} {answers : List ℕ → Returned O → Type 0} {m : List ℕ} (between : Separator) (v : O → V) (b : Rule V) (result : Returned (Vec O))
    → Follows (λ a. or_memory_behind a (list1_means (meaning (separator between)) a)) answers (λ x. x.items) m result → KeepsExactly answers v b → FailsOnlyIf (StartsWith b m) result
unfolding meaning
separated_fails between v b (Ok x) h says = tt
separated_fails {answers = answers} {m = m} between v b (Err e) h says =
    let u = exactly_under answers v b says in
    starts_behind v (map v) (called answers) b (list1_means (meaning (separator between)) (called answers)) (list1 (separator between) b) m e u (list1_under (meaning (separator between)) v (called answers) (meaning b) u) h.met

pub maybe_separated_read : {O V : Type 0} {answers : List ℕ → Returned O → Type 0} {m : List ℕ} {result : Returned (Vec O)} (between : Separator) (v : O → V) (b : Rule V)
    → Follows (λ a. or_memory_behind a (list0_means (meaning (separator between)) a)) answers (λ x. x.items) m result → Keeps answers v b → Gives (λ x. map v x.items) result (step (list0 (separator between) b) m)
unfolding meaning
maybe_separated_read {answers = answers} {m = m} {result = result} between v b h says =
    under_gives (called answers) (map v) (list0_means (meaning (separator between)) (called answers)) (list0 (separator between) b) (λ x. x.items) m result (list0_under (meaning (separator between)) v (called answers) (meaning b) (kept_under answers v b says)) h.met

-- where the reader that was passed answers or wants memory only where this holds, so does the list want some
pub maybe_separated_wants : {O : Type 0} {answers : List ℕ → Returned O → Type 0} {m : List ℕ} (between : Separator) (P : Type 0) (result : Returned (Vec O))
    → Follows (λ a. or_memory_behind a (list0_means (meaning (separator between)) a)) answers (λ x. x.items) m result → ((left : Bor (List ℕ)) (x : O) → answers m (Ok (left, x)) → P) → (answers m (Err Failure) → P) → FailsOnlyIf P result
maybe_separated_wants between P (Ok x) h yields fails = tt
maybe_separated_wants {answers = answers} {m = m} between P (Err e) h yields fails = λ q. elim h.met [
  | inl f ↦ elim f [
    | inl g ↦ elim g.0 [
      | inl a ↦ fails (subst (λ d. answers m (Err d)) q a)
      | inr b ↦ let y = b.2 in yields y.0 b.0 y.2
    ]
    | inr g ↦ absurd g.1
  ]
  | inr f ↦ let y = f.3 in yields y.0 f.1 y.2
]

pub listed : {O V : Type 0} {answers : List ℕ → Returned O → Type 0} {m : List ℕ} {result : Returned (Vec O)} (v : O → V) (b : Rule V)
    → Follows (λ a. or_memory_behind (opened_means a) (list_means a)) answers (λ x. x.items) m result → Keeps answers v b → Gives (λ x. map v x.items) result (step (list_of b) m)
unfolding meaning
listed {answers = answers} {m = m} {result = result} v b h says =
    under_gives (opened_means (called answers)) (map v) (list_means (called answers)) (list_of b) (λ x. x.items) m result
    (enclosed_under (opt sp ⨾ tag ")") (map v) (list0_means (meaning sp) (called answers)) (list0_means (meaning sp) (meaning b)) (list0_under (meaning sp) v (called answers) (meaning b) (kept_under answers v b says))) h.met

-- and a list in brackets only behind `(` and its first item
pub listed_fails : {O V : Type 0} {answers : List ℕ → Returned O → Type 0} {m : List ℕ} (v : O → V) (b : Rule V) (result : Returned (Vec O))
    → Follows (λ a. or_memory_behind (opened_means a) (list_means a)) answers (λ x. x.items) m result → KeepsExactly answers v b → FailsOnlyIf (StartsWith (opened b) m) result
unfolding meaning
listed_fails v b (Ok x) h says = tt
listed_fails {answers = answers} {m = m} v b (Err e) h says =
    let u = exactly_under answers v b says in
    starts_behind v (map v) (opened_means (called answers)) (opened b) (list_means (called answers)) (list_of b) m e (opened_under v (called answers) (meaning b) u)
    (enclosed_under (opt sp ⨾ tag ")") (map v) (list0_means (meaning sp) (called answers)) (list0_means (meaning sp) (meaning b)) (list0_under (meaning sp) v (called answers) (meaning b) u)) h.met

pub nonempty_listed : {O V : Type 0} {answers : List ℕ → Returned O → Type 0} {m : List ℕ} {result : Returned (Vec O)} (v : O → V) (b : Rule V)
    → Follows (λ a. or_memory_behind (opened_means a) (nonempty_list_means a)) answers (λ x. x.items) m result → Keeps answers v b → Gives (λ x. map v x.items) result (step (nonempty_list_of b) m)
unfolding meaning
nonempty_listed {answers = answers} {m = m} {result = result} v b h says =
    under_gives (opened_means (called answers)) (map v) (nonempty_list_means (called answers)) (nonempty_list_of b) (λ x. x.items) m result
    (enclosed_under (blanks0 ⨾ tag ")") (map v) (list1_means (meaning sp) (called answers)) (list1_means (meaning sp) (meaning b)) (list1_under (meaning sp) v (called answers) (meaning b) (kept_under answers v b says))) h.met

pub delimited_given : {O V : Type 0} {answers : List ℕ → Returned O → Type 0} {m : List ℕ} {result : Returned O} (v : O → V) (b : Rule V)
    → Follows delimited_means answers (λ x. x) m result → Keeps answers v b → Gives v result (step (delimited b) m)
unfolding meaning
delimited_given {answers = answers} {m = m} {result = result} v b h says =
    under_gives (delimited_means (called answers)) v (delimited_means (called answers)) (delimited b) (λ x. x) m result (enclosed_under (tag ")") v (called answers) (meaning b) (kept_under answers v b says)) (memory_aside (delimited_means (called answers)) (λ x. x) m result h.met)

pub delimited_exactly : {O V : Type 0} {answers : List ℕ → Returned O → Type 0} {m : List ℕ} {result : Returned O} (v : O → V) (b : Rule V)
    → Follows delimited_means answers (λ x. x) m result → KeepsExactly answers v b → Exactly v result (step (delimited b) m)
unfolding meaning
delimited_exactly {answers = answers} {m = m} {result = result} v b h says =
    under_exactly v (delimited_means (called answers)) (delimited b) (λ x. x) m result (enclosed_under (tag ")") v (called answers) (meaning b) (exactly_under answers v b says)) h.met

pub opt_opt_given : {O V : Type 0} {answers : List ℕ → Returned (Option O) → Type 0} {m : List ℕ} {result : Returned (Option O)} (v : O → V) (b : Rule (Option V))
    → Follows opt_opt_means answers (λ x. x) m result → Keeps answers (option_map v) b → Gives (option_map v) result (step (opt_opt_of b) m)
unfolding meaning
opt_opt_given {answers = answers} {m = m} {result = result} v b h says =
    under_gives (opt_opt_means (called answers)) (option_map v) (opt_opt_means (called answers)) (opt_opt_of b) (λ x. x) m result (opt_opt_under v (called answers) (meaning b) (kept_under answers (option_map v) b says)) (memory_aside (opt_opt_means (called answers)) (λ x. x) m result h.met)

pub opt_opt_exactly : {O V : Type 0} {answers : List ℕ → Returned (Option O) → Type 0} {m : List ℕ} {result : Returned (Option O)} (v : O → V) (b : Rule (Option V))
    → Follows opt_opt_means answers (λ x. x) m result → KeepsExactly answers (option_map v) b → Exactly (option_map v) result (step (opt_opt_of b) m)
unfolding meaning
opt_opt_exactly {answers = answers} {m = m} {result = result} v b h says =
    under_exactly (option_map v) (opt_opt_means (called answers)) (opt_opt_of b) (λ x. x) m result (opt_opt_under v (called answers) (meaning b) (exactly_under answers (option_map v) b says)) h.met
