-- What a reader answers that keeps strings.
use Rattle.std.specs.Prelude.{ℕ}
use Rattle.imap_grammar.specs.Text.{Bytes}
use Rattle.imap_grammar.specs.Rule.{Rule}
use Rattle.imap_grammar.specs.Positions.{Ahead, Reached, StepsAt, StepsExactlyAt, named_in}
use Rattle.imap_body_types.specs.Spans.{Lookup, RestsOn}

-- What was read in m from p on is what the rule says of it; the reader stops in m, not before p; and what it keeps has
-- no positions behind where it stops.
abbrev pub Reads :
    {A V : Type 0} → Rule V → (Lookup → A → V) → Bytes → ℕ → Reached A → Type 0
Reads r view m p result =
    record {
      steps : StepsAt r (view (named_in m)) m p result;
      ahead : Ahead m p result;
      rests : RestsOn view result;
    }

-- The same of a reader that takes no memory.
abbrev pub ReadsExactly :
    {A V : Type 0} → Rule V → (Lookup → A → V) → Bytes → ℕ → Reached A → Type 0
ReadsExactly r view m p result =
    record {
      steps : StepsExactlyAt r (view (named_in m)) m p result;
      ahead : Ahead m p result;
      rests : RestsOn view result;
    }
