-- What a reader answers, by the rule that it reads.
use Rattle.std.specs.Prelude.{◌≡◌, ℕ, List, Result, Ok, Err}
use Rattle.std.specs.Borrow.{Bor}
use Rattle.imap_grammar.specs.declared.answer.Err.{Err as Fault}
use Rattle.imap_grammar.specs.declared.answer.Err.TheVariants.{Incomplete, Error, Failure}
use Rattle.imap_grammar.specs.declared.answer.Needed.TheVariants.{Unknown, Size}
use Rattle.imap_grammar.specs.Meaning.{Meaning, Denies, Lacks}
use Rattle.imap_grammar.specs.Rule.{Rule, meaning}
use Rattle.imap_grammar.specs.Step.{Step, step}

-- what a reader returns: a rest and a value, or a fault
abbrev pub Returned : Type 0 → Type 0
Returned A = Result (Bor (List ℕ) × A) Fault

-- it neither yields nor denies nor lacks
abbrev pub Neither : {V : Type 0} → Meaning V → List ℕ → Type 0
Neither {V} r m =
    ((v : V) (rest : List ℕ) → ¬ (r.yields m v rest))
    × (¬ (Denies r m))
    × ((n : ℕ) → ¬ (Lacks r m n))

-- what a fault says of the rule's answer on m
abbrev pub Refuses : {V : Type 0} → Meaning V → List ℕ → Fault → Type 0
Refuses r m Error = Denies r m
Refuses r m (Incomplete Unknown) = Neither r m
Refuses r m (Incomplete (Size n)) = Lacks r m n
Refuses r m Failure = Unit {0}

-- what a reader returned is what the rule says of m
abbrev pub Says : {A V : Type 0} → Meaning V → (A → V) → List ℕ → Returned A → Type 0
Says r view m (Ok x) = r.yields m (view x.1) x.0.now
Says r view m (Err e) = Refuses r m e

-- The result is the answer of the rule on m, its value seen by view, unless memory ran out:
-- `Ok` where it yields that value and rest, `Error` where it denies, `Incomplete(Size(n))` where it lacks n,
-- `Incomplete(Unknown)` where none of the three.
unfoldable pub Answers : {A V : Type 0} → Rule V → (A → V) → List ℕ → Returned A → Type 0
Answers r view m result = Says (meaning r) view m result

-- ---- the same by a step

-- what a fault says of a step
abbrev pub Stops : {V : Type 0} → Fault → Step V → Type 0
Stops Failure s = Unit {0}
Stops Error s = s ≡ Err Error
Stops (Incomplete n) s = s ≡ Err (Incomplete n)

-- What a reader returned, its value seen by view, is the step, unless memory ran out.
abbrev pub Gives : {A V : Type 0} → (A → V) → Returned A → Step V → Type 0
Gives view (Ok x) s = s ≡ Ok (x.0.now, view x.1)
Gives view (Err e) s = Stops e s

-- The same of a reader that takes no memory: no step is `Failure`, so it never answers that.
abbrev pub Exactly : {A V : Type 0} → (A → V) → Returned A → Step V → Type 0
Exactly view (Ok x) s = s ≡ Ok (x.0.now, view x.1)
Exactly view (Err e) s = s ≡ Err e

-- The result is the step of the rule on m, unless memory ran out.
abbrev pub Steps : {A V : Type 0} → Rule V → (A → V) → List ℕ → Returned A → Type 0
Steps r view m result = Gives view result (step r m)

-- It is, of a reader that takes no memory.
abbrev pub StepsExactly : {A V : Type 0} → Rule V → (A → V) → List ℕ → Returned A → Type 0
StepsExactly r view m result = Exactly view result (step r m)
