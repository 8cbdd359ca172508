-- Structures of bodies, down to a level (RFC 3501, section 9: body, body-type-text, body-type-msg, body-type-basic,
-- body-type-mpart).
use Rattle.std.specs.Prelude.{ℕ, zero, suc, List, codes}
use Rattle.imap_grammar.specs.Text.{Bytes, Text, as_text}
use Rattle.imap_grammar.specs.Rule.{Rule, gives, never, some1, ◌⨾◌, ◌▹◌, ◌◃◌, ◌or◌}
use Rattle.imap_grammar.specs.Tags.{tag, word}
use Rattle.imap_bytes.specs.Numbers.{number}
use Rattle.imap_bytes.specs.Texts.{string_utf8}
use Rattle.imap_body_types.specs.EnvelopeValues.{EnvelopeValue}
use Rattle.imap_body_types.specs.FieldValues.{FieldsValue}
use Rattle.imap_body_types.specs.ExtensionValues.{Ext1PartValue, ExtMPartValue}
use Rattle.imap_body_types.specs.BodyValues.{CommonValue, SingleValue, BodyValue, Basic, TextBody, Message, Multipart, bodies_of}
use Rattle.imap_envelopes.specs.Envelopes.{spaced, envelope}
use Rattle.imap_bodystructure.specs.Fields.{body_fields}
use Rattle.imap_bodystructure.specs.Extensions.{body_ext_1part, body_ext_mpart}

-- ---- values

-- of a single part: its type, and what its fields and extension data say of its content
abbrev pub common_of_parts : Text → Text → FieldsValue → Ext1PartValue → CommonValue
common_of_parts ty subtype fields ext =
    record {
      ty = record { ty = ty; subtype = subtype; params = fields.param };
      disposition = ext.disposition;
      language = ext.language;
      location = ext.location;
    }

abbrev pub single_of : FieldsValue → Ext1PartValue → SingleValue
single_of fields ext =
    record {
      id = fields.id;
      md5 = ext.md5;
      description = fields.description;
      transfer_encoding = fields.transfer_encoding;
      octets = fields.octets;
    }

abbrev pub text_of_parts : Text × (FieldsValue × (ℕ × Ext1PartValue)) → BodyValue
text_of_parts (subtype, (fields, (lines, ext))) =
    TextBody (common_of_parts (as_text (codes "TEXT")) subtype fields ext) (single_of fields ext)
    lines ext.extension

abbrev pub message_of :
    FieldsValue × (EnvelopeValue × (BodyValue × (ℕ × Ext1PartValue))) → BodyValue
message_of (fields, (envelope, (body, (lines, ext)))) =
    Message (common_of_parts (as_text (codes "MESSAGE")) (as_text (codes "RFC822")) fields ext)
    (single_of fields ext) envelope body lines ext.extension

abbrev pub basic_of : Text × (Text × (FieldsValue × Ext1PartValue)) → BodyValue
basic_of (ty, (subtype, (fields, ext))) =
    Basic (common_of_parts ty subtype fields ext) (single_of fields ext) ext.extension

abbrev pub multipart_of : List BodyValue × (Text × ExtMPartValue) → BodyValue
multipart_of (bodies, (subtype, ext)) =
    Multipart
    (record {
      ty = record { ty = as_text (codes "MULTIPART"); subtype = subtype; params = ext.param };
      disposition = ext.disposition;
      language = ext.language;
      location = ext.location;
    })
    (bodies_of bodies) ext.extension

-- ---- rules

-- body-type-1part = (body-type-basic / body-type-msg / body-type-text) [SP body-ext-1part]: here the extension data
-- stand in each of the three rules. Each field of them, and of a multipart's, brings its own SP, and may be missing
-- with it.

-- body-type-text = media-text SP body-fields SP body-fld-lines, where media-text = DQUOTE "TEXT" DQUOTE SP
--     media-subtype
unfoldable pub body_type_text : Rule BodyValue
body_type_text =
    gives text_of_parts
    (word "\"TEXT\"" ▹ spaced string_utf8 ⨾ spaced body_fields ⨾ spaced number ⨾ body_ext_1part)

unfoldable pub message_word : Rule Bytes
message_word = word "\"MESSAGE\" \"RFC822\""

-- body-type-msg = media-message SP body-fields SP envelope SP body SP body-fld-lines,
-- where media-message = DQUOTE "MESSAGE" DQUOTE SP DQUOTE "RFC822" DQUOTE
unfoldable pub body_type_msg : Rule BodyValue → Rule BodyValue
body_type_msg body =
    gives message_of
    (message_word ▹ spaced body_fields
    ⨾ spaced envelope
    ⨾ spaced body
    ⨾ spaced number
    ⨾ body_ext_1part)

-- body-type-basic = media-basic SP body-fields; media-basic, a type of five that are named or any string, is read as
-- string SP media-subtype
unfoldable pub body_type_basic : Rule BodyValue
body_type_basic =
    gives basic_of (string_utf8 ⨾ spaced string_utf8 ⨾ spaced body_fields ⨾ body_ext_1part)

-- 1*body
unfoldable pub some_bodies : Rule BodyValue → Rule (List BodyValue)
some_bodies body = some1 body

-- body-type-mpart = 1*body SP media-subtype [SP body-ext-mpart]
unfoldable pub body_type_mpart : Rule BodyValue → Rule BodyValue
body_type_mpart body = gives multipart_of (some_bodies body ⨾ spaced string_utf8 ⨾ body_ext_mpart)

-- body-type-1part / body-type-mpart, the narrower types of a single part first
unfoldable pub body_type : Rule BodyValue → Rule BodyValue
body_type inner = body_type_text or body_type_msg inner or body_type_basic or body_type_mpart inner

-- the alternatives that may begin with a quoted string
unfoldable pub quoted_type : Rule BodyValue → Rule BodyValue
quoted_type inner = body_type_text or body_type_msg inner or body_type_basic

-- body = "(" (body-type-1part / body-type-mpart) ")"
unfoldable pub bracketed_body : Rule BodyValue → Rule BodyValue
bracketed_body inner = tag "(" ▹ body_type inner ◃ tag ")"

-- a body, with bodies inside up to the level below; at level 0 it denies without looking
unfoldable pub body : ℕ → Rule BodyValue
body zero = never
body (suc level) = bracketed_body (body level)

-- a body, up to 100 inside one another
unfoldable pub body_structure : Rule BodyValue
body_structure = body 100
