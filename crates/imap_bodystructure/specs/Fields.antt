-- Parameters, encodings and fields of bodies (RFC 3501, section 9: body-fields, body-fld-param, body-fld-enc).
use Rattle.std.specs.Prelude.{ℕ, List, Option}
use Rattle.imap_grammar.specs.Text.{Text}
use Rattle.imap_grammar.specs.Rule.{Rule, gives, nothing, list1, ◌⨾◌, ◌▹◌, ◌◃◌, ◌or◌}
use Rattle.imap_grammar.specs.Tags.{tag, names, sp, blanks0}
use Rattle.imap_bytes.specs.Numbers.{number}
use Rattle.imap_bytes.specs.Strings.{nil, nil_or}
use Rattle.imap_bytes.specs.Texts.{string_utf8, nstring_utf8}
use Rattle.imap_body_types.specs.declared.shapes.fields.ContentEncoding.TheVariants.{SevenBit, EightBit, Binary, Base64, QuotedPrintable, Other}
use Rattle.imap_body_types.specs.FieldValues.{ParamsValue, EncodingValue, FieldsValue}
use Rattle.imap_envelopes.specs.Envelopes.{spaced}

-- string SP string
unfoldable pub body_param : Rule (Text × Text)
body_param = string_utf8 ⨾ spaced string_utf8

-- string SP string *(SP string SP string)
unfoldable pub some_params : Rule (List (Text × Text))
some_params = list1 sp body_param

-- body-fld-param = "(" string SP string *(SP string SP string) ")" / nil, where blanks may stand before the `)`
unfoldable pub body_fld_param : Rule ParamsValue
body_fld_param = nil_or (tag "(" ▹ some_params ◃ blanks0 ⨾ tag ")")

-- "7BIT" / "8BIT" / "BINARY" / "BASE64" / "QUOTED-PRINTABLE"
unfoldable pub encoding_name : Rule EncodingValue
encoding_name =
    names "7BIT" SevenBit
    or names "8BIT" EightBit
    or names "BINARY" Binary
    or names "BASE64" Base64
    or names "QUOTED-PRINTABLE" QuotedPrintable

-- DQUOTE ("7BIT" / "8BIT" / "BINARY" / "BASE64" / "QUOTED-PRINTABLE") DQUOTE
unfoldable pub quoted_encoding : Rule EncodingValue
quoted_encoding = tag "\"" ▹ encoding_name ◃ tag "\""

-- body-fld-enc = (DQUOTE ("7BIT" / "8BIT" / "BINARY" / "BASE64" / "QUOTED-PRINTABLE") DQUOTE) / string; nil stands
--     for 7BIT
unfoldable pub body_fld_enc : Rule EncodingValue
body_fld_enc = nil ▹ nothing SevenBit or quoted_encoding or gives Other string_utf8

-- ---- no further rules: those alternatives of `encoding_name` and `body_fld_enc` that may start with one byte, as the
-- reader tries them

unfoldable pub seven_bit : Rule EncodingValue
seven_bit = names "7BIT" SevenBit

unfoldable pub eight_bit : Rule EncodingValue
eight_bit = names "8BIT" EightBit

unfoldable pub binary_or_base64 : Rule EncodingValue
binary_or_base64 = names "BINARY" Binary or names "BASE64" Base64

unfoldable pub quoted_printable : Rule EncodingValue
quoted_printable = names "QUOTED-PRINTABLE" QuotedPrintable

unfoldable pub nil_encoding : Rule EncodingValue
nil_encoding = nil ▹ nothing SevenBit

unfoldable pub other_encoding : Rule EncodingValue
other_encoding = gives Other string_utf8

unfoldable pub encoding_in_quotes : Rule EncodingValue
encoding_in_quotes = quoted_encoding or other_encoding

abbrev pub fields_of :
    ParamsValue × (Option Text × (Option Text × (EncodingValue × ℕ))) → FieldsValue
fields_of (param, (id, (description, (transfer_encoding, octets)))) =
    record {
      param = param;
      id = id;
      description = description;
      transfer_encoding = transfer_encoding;
      octets = octets;
    }

-- body-fields = body-fld-param SP body-fld-id SP body-fld-desc SP body-fld-enc SP body-fld-octets
unfoldable pub body_fields : Rule FieldsValue
body_fields =
    gives fields_of
    (body_fld_param
    ⨾ spaced nstring_utf8
    ⨾ spaced nstring_utf8
    ⨾ spaced body_fld_enc
    ⨾ spaced number)
