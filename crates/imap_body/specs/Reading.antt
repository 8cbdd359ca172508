-- What a reader of an attribute answers.
use Rattle.std.specs.Prelude.{ℕ}
use Rattle.imap_grammar.specs.Text.{Bytes, Text}
use Rattle.imap_grammar.specs.Rule.{Rule}
use Rattle.imap_grammar.specs.Positions.{Reached}
use Rattle.imap_envelopes.specs.Reading.{Reads, ReadsExactly}
use Rattle.imap_body_types.specs.Spans.{Lookup}
use Rattle.imap_body.specs.AttributeValues.{AttributeKept, AttributeValue, parts_said}

-- As `Reads` says it: what is kept is seen as the attribute that the rule yields.
abbrev pub ReadsAttribute :
    {S B : Type 0} → (Lookup → S → Text) → (Lookup → B → Text) → Rule AttributeValue → Bytes → ℕ →
    Reached (AttributeKept S B) → Type 0
ReadsAttribute text bytes r m p result = Reads r (parts_said text bytes) m p result

-- The same, by a reader that takes no memory.
abbrev pub ReadsAttributeExactly :
    {S B : Type 0} → (Lookup → S → Text) → (Lookup → B → Text) → Rule AttributeValue → Bytes → ℕ →
    Reached (AttributeKept S B) → Type 0
ReadsAttributeExactly text bytes r m p result = ReadsExactly r (parts_said text bytes) m p result
