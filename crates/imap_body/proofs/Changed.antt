-- What an attribute says where each of its texts is changed: the change of what it said.
use Rattle.std.proofs.Common.{◌≡◌, ℕ, List, [], ◌∷◌, map, refl, sym, ap}
use Rattle.std.specs.declared.borrow.CowSlice.{CowSlice}
use Rattle.std.specs.declared.borrow.CowStr.{CowStr}
use Rattle.std.proofs.lemmas.Simd.{map-map}
use Rattle.imap_grammar.specs.Text.{Text, text_of, owned_text}
use Rattle.imap_grammar.proofs.Seen.{option_twice}
use Rattle.imap_body_types.specs.BodyValues.{body_seen}
use Rattle.imap_body_types.specs.Spans.{bytes_of, text_owned, bytes_owned}
use Rattle.imap_body_types.specs.declared.shapes.bodies.BodyStructure.{BodyStructure as Structure}
use Rattle.imap_body_types.proofs.Changed.{envelope_changed, body_changed}
use Rattle.imap_body.specs.AttributeValues.{AttributeValue, attribute_seen, attribute_value}
use Rattle.imap_body.specs.AttributeValues as said
use Rattle.imap_sections.specs.SectionValues.{path_value}
use Rattle.std.specs.Option.{option_map}
use Rattle.imap_body.specs.Changed.{changed_attribute, owned_attribute}
use Rattle.imap_body.specs.declared.attributes.AttributeParts.{AttributeParts}
use Rattle.imap_body.specs.declared.attributes.AttributeParts.TheVariants as parts

module _ {S B : Type 0} (f : S → Text) (g : B → Text) (h : Text → Text) where
  pub attribute_changed : (x : AttributeParts S B (Structure S B)) → attribute_seen (λ s. h (f s)) (λ b. h (g b)) (body_seen (λ s. h (f s)) (λ b. h (g b))) x ≡ changed_attribute h (attribute_seen f g (body_seen f g) x)
  attribute_changed (parts.BodySection section index contents) = ap (said.BodySection (option_map path_value section) index) (option_twice g h contents)
  attribute_changed (parts.BodyStructure body) = ap said.BodyStructure (body_changed f g h body)
  attribute_changed (parts.Envelope envelope) = ap said.Envelope (envelope_changed g h envelope.value)
  attribute_changed (parts.Flags flags) = ap said.Flags (sym (map-map h f flags.items))
  attribute_changed (parts.InternalDate date) = refl
  attribute_changed (parts.ModSeq n) = refl
  attribute_changed (parts.Rfc822 message) = ap said.Rfc822 (option_twice g h message)
  attribute_changed (parts.Rfc822Header header) = ap said.Rfc822Header (option_twice g h header)
  attribute_changed (parts.Rfc822Size n) = refl
  attribute_changed (parts.Rfc822Text text) = ap said.Rfc822Text (option_twice g h text)
  attribute_changed (parts.Uid n) = refl
  attribute_changed (parts.GmailLabels labels) = ap said.GmailLabels (sym (map-map h f labels.items))
  attribute_changed (parts.GmailMsgId n) = refl
  attribute_changed (parts.GmailThrId n) = refl
  attribute_changed (parts.EmailId id) = refl
  attribute_changed (parts.ThreadId id) = ap said.ThreadId (option_twice f h id)
  attribute_changed (parts.SaveDate date) = ap said.SaveDate (option_twice f h date)
  attribute_changed parts.Unknown = refl

-- with its texts owned
abbrev pub seen_owned : {Z : Type 0} → AttributeParts (CowStr Z) (CowSlice ℕ Z) (Structure (CowStr Z) (CowSlice ℕ Z)) → AttributeValue
seen_owned x = attribute_seen text_owned bytes_owned (body_seen text_owned bytes_owned) x

pub attribute_is_owned : {Z : Type 0} (x : AttributeParts (CowStr Z) (CowSlice ℕ Z) (Structure (CowStr Z) (CowSlice ℕ Z))) → seen_owned x ≡ owned_attribute (attribute_value x)
attribute_is_owned x = attribute_changed text_of bytes_of owned_text x

pub attributes_are_owned : {Z : Type 0} (xs : List (AttributeParts (CowStr Z) (CowSlice ℕ Z) (Structure (CowStr Z) (CowSlice ℕ Z)))) → map seen_owned xs ≡ map owned_attribute (map attribute_value xs)
attributes_are_owned [] = refl
attributes_are_owned (x ∷ xs) = rw (attribute_is_owned x, attributes_are_owned xs) refl
