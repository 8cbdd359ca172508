-- What an attribute of a message says (RFC 3501, section 9: msg-att).
use Rattle.std.specs.Prelude.{ℕ, List, Option, map}
use Rattle.std.specs.Option.{option_map}
use Rattle.std.specs.declared.alloc.Global.{Global}
use Rattle.std.specs.declared.borrow.CowSlice.{CowSlice}
use Rattle.std.specs.declared.borrow.CowStr.{CowStr}
use Rattle.std.specs.declared.boxed.Box.{Box}
use Rattle.imap_grammar.specs.Text.{Text, text_of}
use Rattle.imap_grammar.specs.declared.at.span.Span.{Span}
use Rattle.imap_sections.specs.SectionValues.{PathValue, path_value}
use Rattle.imap_body_types.specs.EnvelopeValues.{EnvelopeValue, envelope_seen}
use Rattle.imap_body_types.specs.BodyValues.{BodyValue, body_seen, boxed_seen}
use Rattle.imap_body_types.specs.Spans.{Lookup, bytes_in, text_in, bytes_of}
use Rattle.imap_body_types.specs.declared.shapes.bodies.BodyStructure.{BodyStructure as Structure}
use Rattle.imap_body_types.specs.declared.spans.SpannedText.{SpannedText}
use Rattle.imap_body.specs.declared.attributes.AttributeParts.{AttributeParts}
use Rattle.imap_body.specs.declared.attributes.AttributeParts.TheVariants as parts

pub data AttributeValue : Type 0 where
  BodySection : Option PathValue → Option ℕ → Option Text → AttributeValue
  BodyStructure : BodyValue → AttributeValue
  Envelope : EnvelopeValue → AttributeValue
  Flags : List Text → AttributeValue
  InternalDate : Text → AttributeValue
  ModSeq : ℕ → AttributeValue
  Rfc822 : Option Text → AttributeValue
  Rfc822Header : Option Text → AttributeValue
  Rfc822Size : ℕ → AttributeValue
  Rfc822Text : Option Text → AttributeValue
  Uid : ℕ → AttributeValue
  GmailLabels : List Text → AttributeValue
  GmailMsgId : ℕ → AttributeValue
  GmailThrId : ℕ → AttributeValue
  EmailId : Text → AttributeValue
  ThreadId : Option Text → AttributeValue
  SaveDate : Option Text → AttributeValue
  Unknown : AttributeValue

-- where f says a text, g a byte string and h a body structure
abbrev pub attribute_seen :
    {S B Y : Type 0} → (S → Text) → (B → Text) → (Y → BodyValue) → AttributeParts S B Y →
    AttributeValue
attribute_seen f g h (parts.BodySection section index contents) =
    BodySection (option_map path_value section) index (option_map g contents)
attribute_seen f g h (parts.BodyStructure body) = BodyStructure (h body)
attribute_seen f g h (parts.Envelope envelope) = Envelope (envelope_seen g envelope.value)
attribute_seen f g h (parts.Flags flags) = Flags (map f flags.items)
attribute_seen f g h (parts.InternalDate date) = InternalDate (f date)
attribute_seen f g h (parts.ModSeq n) = ModSeq n
attribute_seen f g h (parts.Rfc822 message) = Rfc822 (option_map g message)
attribute_seen f g h (parts.Rfc822Header header) = Rfc822Header (option_map g header)
attribute_seen f g h (parts.Rfc822Size n) = Rfc822Size n
attribute_seen f g h (parts.Rfc822Text text) = Rfc822Text (option_map g text)
attribute_seen f g h (parts.Uid n) = Uid n
attribute_seen f g h (parts.GmailLabels labels) = GmailLabels (map f labels.items)
attribute_seen f g h (parts.GmailMsgId n) = GmailMsgId n
attribute_seen f g h (parts.GmailThrId n) = GmailThrId n
attribute_seen f g h (parts.EmailId id) = EmailId (f id)
attribute_seen f g h (parts.ThreadId id) = ThreadId (option_map f id)
attribute_seen f g h (parts.SaveDate date) = SaveDate (option_map f date)
attribute_seen f g h parts.Unknown = Unknown

-- ---- of spans, and of texts

-- as a reader keeps it, by what is kept of texts and of byte strings
abbrev pub AttributeKept : Type 0 → Type 0 → Type 0
AttributeKept S B = AttributeParts S B (Box (Structure S B) Global)

abbrev pub AttributeSpans : Type 0
AttributeSpans = AttributeKept SpannedText Span

-- the value that it stands for where spans are looked up so, by the values of its texts and byte strings
abbrev pub parts_said :
    {S B : Type 0} → (Lookup → S → Text) → (Lookup → B → Text) → Lookup → AttributeKept S B →
    AttributeValue
parts_said text bytes n x =
    attribute_seen (text n) (bytes n) (λ b. boxed_seen (text n) (bytes n) b) x

-- what the spans of an attribute name
abbrev pub parts_in : Lookup → AttributeSpans → AttributeValue
parts_in n x = parts_said text_in bytes_in n x

abbrev pub attribute_value :
    {Z : Type 0} → AttributeParts (CowStr Z) (CowSlice ℕ Z) (Structure (CowStr Z) (CowSlice ℕ Z)) →
    AttributeValue
attribute_value x = attribute_seen text_of bytes_of (body_seen text_of bytes_of) x
