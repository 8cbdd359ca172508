-- Attributes that are kept as positions of a message: what they name in one, and how they stand in it.
use Rattle.std.specs.Prelude.{◌≡◌, ℕ, ◌+◌, ◌-◌, ◌≤◌, List, [], ◌∷◌, take, drop, map, codes, Result, Ok, Err, IsOkAnd, IsErrAnd}
use Rattle.std.specs.declared.alloc.AllocError.{AllocError}
use Rattle.std.specs.declared.alloc.Global.{Global}
use Rattle.std.specs.declared.vec.Vec.{Vec}
use Rattle.imap_grammar.specs.Text.{Bytes, Text, as_text}
use Rattle.imap_grammar.specs.declared.at.span.Span.{Span}
use Rattle.imap_grammar.specs.Answer.{Returned, Stops}
use Rattle.imap_grammar.specs.declared.answer.Err.TheVariants.{Failure}
use Rattle.imap_grammar.specs.Positions.{Reached, named_in}
use Rattle.imap_grammar.specs.Step.{Step}
use Rattle.imap_grammar.specs.Rule.{meaning}
use Rattle.imap_body.specs.declared.spanned_attribute.SpannedAttribute.{SpannedAttribute}
use Rattle.imap_body_types.specs.BodyValues.{BodyValue, body_seen}
use Rattle.imap_body_types.specs.Spans.{Lookup, Rests, bytes_in, text_in}
use Rattle.imap_body_types.specs.declared.shapes.bodies.BodyStructure.{BodyStructure as Structure}
use Rattle.imap_body_types.specs.declared.spans.SpannedText.{SpannedText}
use Rattle.imap_body_types.specs.declared.spans.SpannedText.TheVariants as spanned
use Rattle.imap_body.specs.AttributeValues.{AttributeValue, AttributeSpans, attribute_seen, parts_said}
use Rattle.imap_body.specs.Changed.{lent_attribute}
use Rattle.imap_body.specs.Unescaped.{HasNoEscape, unescaped_text, unescaped_bytes}
use Rattle.imap_body.specs.Attributes.{attribute}

-- The value that the attribute stands for in m, by the values of its texts and byte strings. Its positions count from
-- where its span starts, and name bytes of the span alone.
abbrev pub attribute_said :
    {S B : Type 0} → (Lookup → S → Text) → (Lookup → B → Text) → Bytes → SpannedAttribute S B →
    AttributeValue
attribute_said text bytes m s = parts_said text bytes (named_in (named_in m s.span)) s.parts

-- Where it stands in its message.
abbrev pub span_of : SpannedAttribute SpannedText Span → Span
span_of s = s.span

-- What it names in m.
abbrev pub attribute_in : Bytes → SpannedAttribute SpannedText Span → AttributeValue
attribute_in m s = attribute_said text_in bytes_in m s

-- The same, each quoted string without its escapes.
abbrev pub unescaped_attribute_in : Bytes → SpannedAttribute SpannedText Span → AttributeValue
unescaped_attribute_in m s = attribute_said unescaped_text unescaped_bytes m s

-- All positions of the attribute lie in its span: counted from where that starts, none is behind its end.
abbrev pub Within :
    {S B : Type 0} → (Lookup → S → Text) → (Lookup → B → Text) → SpannedAttribute S B → Type 0
Within text bytes s = Rests (λ n x. parts_said text bytes n x) (s.span.end - s.span.start) s.parts

abbrev pub WithinItsSpan : SpannedAttribute SpannedText Span → Type 0
WithinItsSpan s = Within text_in bytes_in s

-- The attribute stands in m at p, and ends at q or before: the rule yields its value at p, and the rest begins where
-- its span ends. Its positions lie in its span.
pub record StandsAt {S B : Type 0}
    (text : Lookup → S → Text) (bytes : Lookup → B → Text) (m : Bytes) (p q : ℕ)
    (s : SpannedAttribute S B) :
    Type 0 where
  pub start : s.span.start ≡ p
  pub ordered : p ≤ s.span.end
  pub ends : s.span.end ≤ q
  pub inside : Within text bytes s
  pub is : (meaning attribute).yields (drop p m) (attribute_said text bytes m s) (drop s.span.end m)

-- They stand one behind another with a byte between, the first from p on, and end by q.
abbrev pub TurnsAt :
    {S B : Type 0} → (Lookup → S → Text) → (Lookup → B → Text) → Bytes → ℕ → ℕ →
    List (SpannedAttribute S B) → Type 0
TurnsAt text bytes m p q [] = Unit {0}
TurnsAt text bytes m p q (s ∷ rest) =
    StandsAt text bytes m p q s × TurnsAt text bytes m (s.span.end + 1) q rest

-- The same of spans.
abbrev pub InTurn : Bytes → ℕ → ℕ → List (SpannedAttribute SpannedText Span) → Type 0
InTurn m p q xs = TurnsAt text_in bytes_in m p q xs

-- It stands there, and ends at q.
abbrev pub EndsAt :
    {S B : Type 0} → (Lookup → S → Text) → (Lookup → B → Text) → Bytes → ℕ → ℕ →
    SpannedAttribute S B → Type 0
EndsAt text bytes m p q s = StandsAt text bytes m p q s × (s.span.end ≡ q)

-- What x names in a message stands in its first q bytes.
pub record Stands {A V : Type 0} (view : Bytes → A → V) (q : ℕ) (x : A) : Type 0 where
  pub same : (m : Bytes) → view (take q m) x ≡ view m x

-- What was read names what stands before the position that was reached.
abbrev pub InFront : {A V : Type 0} → (Bytes → A → V) → Reached A → Type 0
InFront view (Ok x) = Stands view x.0 x.1
InFront view (Err e) = Unit {0}

-- What a reader keeps of the attributes that it read from p on, where s is the rule's answer: s yields the values that
-- they stand for in m; and they stand in turn from p on, and end at the position that was reached, or before.
abbrev pub KeepsAt :
    {S B K : Type 0} → (Lookup → S → Text) → (Lookup → B → Text) →
    (List (SpannedAttribute S B) → List K → Type 0) → Bytes → ℕ → Reached (Vec K Global) →
    Step (List AttributeValue) → Type 0
KeepsAt {S} {B} text bytes keeps m p (Ok x) s =
    (read : List (SpannedAttribute S B))
    × keeps read x.1.items
    × (s ≡ Ok (drop x.0 m, map (attribute_said text bytes m) read))
    × TurnsAt text bytes m p x.0 read
KeepsAt text bytes keeps m p (Err e) s = Stops e s

-- Where no `\` stands behind a `"` in its bytes, an attribute says the same with its strings as they stand and without
-- their escapes.
abbrev pub SameWithoutEscapes : Type 0
SameWithoutEscapes =
    (m : Bytes) (s : SpannedAttribute SpannedText Span) → HasNoEscape (named_in m (span_of s))
    → unescaped_attribute_in m s ≡ attribute_in m s

-- ---- from positions to slices

-- what was reached in m from its start, with the rest as a slice
abbrev pub IsSliced : {A : Type 0} → Bytes → Reached A → Returned A → Type 0
IsSliced m (Ok x) result = IsOkAnd result (λ y. (y.0.now ≡ drop x.0 m) × (y.1 ≡ x.1))
IsSliced m (Err e) result = IsErrAnd result (λ d. d ≡ e)

-- what was made where q was reached, with the rest as a slice; or want of memory
abbrev pub IsMadeAt : {A : Type 0} → Bytes → ℕ → Result A AllocError → Returned A → Type 0
IsMadeAt m q (Ok x) result = IsOkAnd result (λ y. (y.0.now ≡ drop q m) × (y.1 ≡ x))
IsMadeAt m q (Err e) result = IsErrAnd result (λ d. d ≡ Failure)

-- ---- the positions themselves, whatever message they are of: a span is seen as a text of its two numbers

abbrev pub place_of : Span → Text
place_of s = as_text (s.start ∷ s.end ∷ [])

-- a text that a rule fixes is seen as itself: none has two characters
abbrev pub place_of_text : SpannedText → Text
place_of_text (spanned.Part s) = place_of s
place_of_text spanned.Text = as_text (codes "TEXT")
place_of_text spanned.Message = as_text (codes "MESSAGE")
place_of_text spanned.Rfc822 = as_text (codes "RFC822")
place_of_text spanned.Multipart = as_text (codes "MULTIPART")

abbrev pub places_of_body : Structure SpannedText Span → BodyValue
places_of_body = body_seen place_of_text place_of

abbrev pub places_of : AttributeSpans → AttributeValue
places_of x = attribute_seen place_of_text place_of (λ b. places_of_body b.value) x

-- where it stands, and the places in it
abbrev pub spanned_value : SpannedAttribute SpannedText Span → Span × AttributeValue
spanned_value s = (s.span, lent_attribute (places_of s.parts))
