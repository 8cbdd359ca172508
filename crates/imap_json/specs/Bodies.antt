-- Structures of bodies.
use Rattle.std.specs.Prelude.{ℕ, List, [], ◌∷◌, ◌++◌, Option, codes}
use Rattle.json.specs.Token.{Token, begin_object, end_object, begin_array, end_array, key}
use Rattle.serde_json.specs.Data.{Data, array, Items, no_items, item}
use Rattle.imap_body_types.specs.EnvelopeValues.{EnvelopeValue}
use Rattle.imap_body_types.specs.ExtensionValues.{ExtensionValue}
use Rattle.imap_body_types.specs.BodyValues.{TypeValue, CommonValue, SingleValue, BodyValue, Basic, TextBody, Message, Multipart, Bodies, no_bodies, one_body}
use Rattle.imap_json.specs.Forms.{number_json, option_json, object_json, variant_json, field_tokens}
use Rattle.imap_json.specs.Texts.{text_json}
use Rattle.imap_json.specs.Envelopes.{envelope_json}
use Rattle.imap_json.specs.Fields.{ntext_json, params_json, encoding_json}
use Rattle.imap_json.specs.Extensions.{disposition_json, languages_json, last_json}

abbrev pub type_json : TypeValue → Data
type_json t =
    object_json
    ((codes "ty", text_json t.ty)
    ∷ (codes "subtype", text_json t.subtype)
    ∷ (codes "params", params_json t.params)
    ∷ [])

abbrev pub common_json : CommonValue → Data
common_json c =
    object_json
    ((codes "ty", type_json c.ty)
    ∷ (codes "disposition", option_json disposition_json c.disposition)
    ∷ (codes "language", languages_json c.language)
    ∷ (codes "location", ntext_json c.location)
    ∷ [])

abbrev pub single_json : SingleValue → Data
single_json s =
    object_json
    ((codes "id", ntext_json s.id)
    ∷ (codes "md5", ntext_json s.md5)
    ∷ (codes "description", ntext_json s.description)
    ∷ (codes "transfer_encoding", encoding_json s.transfer_encoding)
    ∷ (codes "octets", number_json s.octets)
    ∷ [])

abbrev mutual
  pub body_json : BodyValue → Data
  body_json (Basic common other last) =
      variant_json (codes "Basic")
      (object_json
      ((codes "common", common_json common)
      ∷ (codes "other", single_json other)
      ∷ (codes "extension", last_json last)
      ∷ []))
  body_json (TextBody common other lines last) =
      variant_json (codes "Text")
      (object_json
      ((codes "common", common_json common)
      ∷ (codes "other", single_json other)
      ∷ (codes "lines", number_json lines)
      ∷ (codes "extension", last_json last)
      ∷ []))
  body_json (Message common other envelope inner lines last) =
      variant_json (codes "Message")
      (object_json
      ((codes "common", common_json common)
      ∷ (codes "other", single_json other)
      ∷ (codes "envelope", envelope_json envelope)
      ∷ (codes "body", body_json inner)
      ∷ (codes "lines", number_json lines)
      ∷ (codes "extension", last_json last)
      ∷ []))
  body_json (Multipart common inner last) =
      variant_json (codes "Multipart")
      (object_json
      ((codes "common", common_json common)
      ∷ (codes "bodies", array (body_items inner))
      ∷ (codes "extension", last_json last)
      ∷ []))

  pub body_items : Bodies → Items
  body_items no_bodies = no_items
  body_items (one_body b bs) = item (body_json b) (body_items bs)

-- ---- what is written before the body of a message and behind it, and before the parts of a multipart and behind them

abbrev pub message_begun : CommonValue → SingleValue → EnvelopeValue → List Token
message_begun common other envelope =
    begin_object ∷ key (codes "Message") ∷ begin_object
    ∷ (field_tokens (codes "common") (common_json common)
    ++ (field_tokens (codes "other") (single_json other)
    ++ (field_tokens (codes "envelope") (envelope_json envelope) ++ key (codes "body") ∷ [])))

abbrev pub message_ended : ℕ → Option ExtensionValue → List Token
message_ended lines last =
    field_tokens (codes "lines") (number_json lines)
    ++ (field_tokens (codes "extension") (last_json last) ++ end_object ∷ end_object ∷ [])

abbrev pub multipart_begun : CommonValue → List Token
multipart_begun common =
    begin_object ∷ key (codes "Multipart") ∷ begin_object
    ∷ (field_tokens (codes "common") (common_json common)
    ++ key (codes "bodies") ∷ begin_array ∷ [])

abbrev pub multipart_ended : Option ExtensionValue → List Token
multipart_ended last =
    end_array
    ∷ (field_tokens (codes "extension") (last_json last) ++ end_object ∷ end_object ∷ [])
