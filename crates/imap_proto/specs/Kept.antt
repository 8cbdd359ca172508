-- Kept fetches: what one says, and what is kept of a message.
use Rattle.std.specs.Prelude.{◌≡◌, ℕ, List, [], ◌∷◌, ◌++◌, map, Option, None, Some, Result, Ok, Err, IfOk}
use Rattle.std.specs.declared.alloc.AllocError.{AllocError}
use Rattle.std.specs.declared.borrow.CowSlice.{CowSlice}
use Rattle.std.specs.declared.borrow.CowStr.{CowStr}
use Rattle.imap_grammar.specs.declared.answer.Err.{Err as Fault}
use Rattle.imap_grammar.specs.Text.{Bytes}
use Rattle.imap_grammar.specs.Rule.{meaning}
use Rattle.imap_grammar.specs.Answer.{Refuses, Returned}
use Rattle.imap_grammar.specs.Positions.{named_in}
use Rattle.imap_body_types.specs.declared.shapes.bodies.BodyStructure.{BodyStructure as Structure}
use Rattle.imap_body.specs.declared.attributes.AttributeParts.{AttributeParts as Attribute}
use Rattle.imap_body.specs.AttributeValues.{AttributeValue, attribute_value}
use Rattle.imap_body.specs.SpannedAttributes.{span_of, attribute_in, unescaped_attribute_in}
use Rattle.imap_proto.specs.declared.kept.Attributes.{Attributes}
use Rattle.imap_proto.specs.declared.kept.KeptFetch.{KeptFetch}
use Rattle.imap_proto.specs.Responses.{ResponseValue, Fetch, IsFetch}
use Rattle.imap_proto.specs.Lines.{response}

-- the number of its message
abbrev pub message_number : KeptFetch → ℕ
message_number k = k.number

-- the bytes that it consumed
abbrev pub consumed_bytes : KeptFetch → Bytes
consumed_bytes k = k.bytes.items

-- its attributes, as their spans name them in its bytes
abbrev pub attributes_of : KeptFetch → List AttributeValue
attributes_of k = map (attribute_in (consumed_bytes k)) k.attributes.items

-- the same, each quoted string without its escapes
abbrev pub unescaped_attributes_of : KeptFetch → List AttributeValue
unescaped_attributes_of k = map (unescaped_attribute_in (consumed_bytes k)) k.attributes.items

-- the bytes of each
abbrev pub spans_of : KeptFetch → List Bytes
spans_of k = map (λ s. named_in (consumed_bytes k) (span_of s)) k.attributes.items

-- the attributes that are left to give
abbrev pub attributes_left : Attributes → List AttributeValue
attributes_left a = map (attribute_in a.bytes.now) a.left.now

-- The next attribute is given: the first that is left, unless memory ran out, and the others are left behind it.
-- Where none is left nothing is given.
abbrev pub GivesAttribute :
    {Z : Type 0} → Attributes →
    Option (Result (Attribute (CowStr Z) (CowSlice ℕ Z) (Structure (CowStr Z) (CowSlice ℕ Z))) AllocError) →
    Attributes → Type 0
GivesAttribute old None new = (attributes_left old ≡ []) × (attributes_left new ≡ [])
GivesAttribute old (Some given) new =
    (first : AttributeValue)
    × (attributes_left old ≡ first ∷ attributes_left new)
    × IfOk given (λ v. attribute_value v ≡ first)

-- What is kept of m, unless memory ran out: a FETCH where the grammar yields one, which consumed the kept bytes;
-- none where it yields another response; and else the fault of the answer.
abbrev pub Keeps : Bytes → Result (Option KeptFetch) Fault → Type 0
Keeps m (Ok (Some k)) =
    (rest : Bytes)
    × (m ≡ consumed_bytes k ++ rest)
    × (meaning response).yields m (Fetch (message_number k) (attributes_of k)) rest
Keeps m (Ok None) =
    (v : ResponseValue) × (rest : Bytes) × (meaning response).yields m v rest × ¬ (IsFetch v)
Keeps m (Err e) = Refuses (meaning response) m e

-- an answer, its value dropped
abbrev pub without_value : {A : Type 0} → Returned A → Result (Unit {0}) Fault
without_value (Ok x) = Ok tt
without_value (Err e) = Err e
