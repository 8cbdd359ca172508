-- Readers that walk positions in one message: what they reach, and the bytes that a span names.
use Rattle.std.specs.Prelude.{◌≡◌, ℕ, ◌-◌, ◌≤◌, List, length, take, drop, Result, Ok, Err, Option, IfSome, All}
use Rattle.std.specs.Option.{option_map}
use Rattle.std.specs.Global.{Vec}
use Rattle.imap_grammar.specs.declared.answer.Err.{Err as Fault}
use Rattle.imap_grammar.specs.declared.at.span.Span.{Span}
use Rattle.imap_grammar.specs.Meaning.{Meaning}
use Rattle.imap_grammar.specs.Rule.{Rule, meaning}
use Rattle.imap_grammar.specs.Step.{Step, step}
use Rattle.imap_grammar.specs.Answer.{Stops, Refuses}

-- a position and a value, or a fault
abbrev pub Reached : Type 0 → Type 0
Reached A = Result (ℕ × A) Fault

-- the bytes from one position to another
abbrev pub between : List ℕ → ℕ → ℕ → List ℕ
between m start end = take (end - start) (drop start m)

-- the bytes that a span names in m
abbrev pub named_in : List ℕ → Span → List ℕ
named_in m s = between m s.start s.end

-- the bytes of a span that may be missing
abbrev pub maybe_in : List ℕ → Option Span → Option (List ℕ)
maybe_in m s = option_map (named_in m) s

-- ---- the answer

abbrev pub SaysAt : {A V : Type 0} → Meaning V → (A → V) → List ℕ → ℕ → Reached A → Type 0
SaysAt r view m p (Ok x) = r.yields (drop p m) (view x.1) (drop x.0 m)
SaysAt r view m p (Err e) = Refuses r (drop p m) e

-- The result is the answer of the rule on m from p, unless memory ran out: what it leaves is m from the position that
-- was reached.
unfoldable pub AnswersAt : {A V : Type 0} → Rule V → (A → V) → List ℕ → ℕ → Reached A → Type 0
AnswersAt r view m p result = SaysAt (meaning r) view m p result

-- The same by a step, for a reader that takes no memory.
abbrev pub ExactlyAt : {A V : Type 0} → (A → V) → List ℕ → Reached A → Step V → Type 0
ExactlyAt view m (Ok x) s = s ≡ Ok (drop x.0 m, view x.1)
ExactlyAt view m (Err e) s = s ≡ Err e

-- And for one that may run out of it.
abbrev pub GivesAt : {A V : Type 0} → (A → V) → List ℕ → Reached A → Step V → Type 0
GivesAt view m (Ok x) s = s ≡ Ok (drop x.0 m, view x.1)
GivesAt view m (Err e) s = Stops e s

-- The result is the step of the rule on m from p, unless memory ran out.
abbrev pub StepsAt : {A V : Type 0} → Rule V → (A → V) → List ℕ → ℕ → Reached A → Type 0
StepsAt r view m p result = GivesAt view m result (step r (drop p m))

-- It is, of a reader that takes no memory.
abbrev pub StepsExactlyAt : {A V : Type 0} → Rule V → (A → V) → List ℕ → ℕ → Reached A → Type 0
StepsExactlyAt r view m p result = ExactlyAt view m result (step r (drop p m))

-- ---- where it lies

-- A position that was reached from p is not before it, and not past m's end.
abbrev pub Ahead : {A : Type 0} → List ℕ → ℕ → Reached A → Type 0
Ahead m p (Ok x) = (p ≤ x.0) × (x.0 ≤ length m)
Ahead m p (Err e) = Unit {0}

-- What was read in m from p on is what the rule says of it, and the reader stops in m, not before p.
abbrev pub ReadsAt : {A V : Type 0} → Rule V → (A → V) → List ℕ → ℕ → Reached A → Type 0
ReadsAt r view m p result = StepsAt r view m p result × Ahead m p result

-- The same of a reader that takes no memory.
abbrev pub ReadsExactlyAt : {A V : Type 0} → Rule V → (A → V) → List ℕ → ℕ → Reached A → Type 0
ReadsExactlyAt r view m p result = StepsExactlyAt r view m p result × Ahead m p result

-- the span lies between two positions
abbrev pub Lies : ℕ → Span → ℕ → Type 0
Lies p s q = (p ≤ s.start) × (s.start ≤ s.end) × (s.end ≤ q)

-- The span that was read from p on lies between it and the position that was reached, and this is not past m's end.
abbrev pub Inside : List ℕ → ℕ → Reached Span → Type 0
Inside m p (Ok x) = Lies p x.1 x.0 × (x.0 ≤ length m)
Inside m p (Err e) = Unit {0}

-- So does a span that may be missing, and each span of a list.
abbrev pub MaybeInside : ℕ → Reached (Option Span) → Type 0
MaybeInside p (Ok x) = IfSome x.1 (λ s. Lies p s x.0)
MaybeInside p (Err e) = Unit {0}

abbrev pub EachInside : ℕ → Reached (Vec Span) → Type 0
EachInside p (Ok x) = All (λ s. Lies p s x.0) x.1.items
EachInside p (Err e) = Unit {0}
