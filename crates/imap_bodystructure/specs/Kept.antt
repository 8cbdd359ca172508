-- How a reader puts what it keeps behind others.
use Rattle.std.specs.Prelude.{◌≡◌, ◌≤◌, ℕ, List, [], ◌∷◌, ◌++◌, length, drop, Result, Ok, Err, IfOk}
use Rattle.imap_grammar.specs.declared.answer.Err.{Err as Fault}
use Rattle.imap_grammar.specs.Text.{Bytes}
use Rattle.imap_grammar.specs.Answer.{Stops}
use Rattle.imap_grammar.specs.Positions.{named_in}
use Rattle.imap_grammar.specs.Rule.{Rule}
use Rattle.imap_grammar.specs.Step.{Step, step}
use Rattle.imap_body_types.specs.Spans.{Lookup, Rests}

-- The new list is the old one and one element more, whose value in m is what the step yields. Its spans lie before q.
pub record OneMore {A V : Type 0}
    (view : Lookup → A → V) (m : Bytes) (old new : List A) (q : ℕ) (s : Step V) :
    Type 0 where
  pub one : A
  pub behind : new ≡ old ++ one ∷ []
  pub read : s ≡ Ok (drop q m, view (named_in m) one)
  pub rests : Rests view q one

-- What the step yields was put behind the old ones, unless memory ran out.
abbrev pub Puts :
    {A V : Type 0} → (Lookup → A → V) → Bytes → List A → List A → Result ℕ Fault → Step V → Type 0
Puts view m old new (Ok q) s = OneMore view m old new q s
Puts view m old new (Err e) s = Stops e s

-- So was what the rule yields on m from p.
abbrev pub PutsAt :
    {A V : Type 0} → Rule V → (Lookup → A → V) → Bytes → ℕ → List A → List A → Result ℕ Fault →
    Type 0
PutsAt r view m p old new result = Puts view m old new result (step r (drop p m))

-- Where nothing was put there, the old ones are as they were.
abbrev pub Leaves : {A : Type 0} → List A → List A → Result ℕ Fault → Type 0
Leaves old new (Ok q) = Unit {0}
Leaves old new (Err e) = new ≡ old

-- The position that was reached from p is not before it, and not past m's end.
abbrev pub Reaches : List ℕ → ℕ → Result ℕ Fault → Type 0
Reaches m p result = IfOk result (λ q. (p ≤ q) × (q ≤ length m))
