-- The text of parameters, encodings and fields of a body.
use Rattle.std.specs.Prelude.{◌⊎◌, None, Some}
use Prim.Native.String.{String}
use Rattle.imap_grammar.specs.Text.{Text}
use Rattle.imap_grammar.specs.Pieces.{Pieces, ◌then◌, words, space, number_text, literal_text, ntext, list_text}
use Rattle.imap_grammar.specs.ReadBack.{Texts}
use Rattle.imap_grammar.specs.Spelling.{exactly, in_any_case, ◌and◌, nil_or, spells_some_list, spells_number, spells_string_text, spells_ntext}
use Rattle.imap_body_types.specs.declared.shapes.fields.ContentEncoding.TheVariants.{SevenBit, EightBit, Binary, Base64, QuotedPrintable, Other}
use Rattle.imap_body_types.specs.FieldValues.{ParamsValue, EncodingValue, FieldsValue}
use Rattle.imap_envelopes.specs.EnvelopeTexts.{behind_space}

-- ---- canonical text

-- the name of a parameter and its value
abbrev pub canonical_pair : Text × Text → Pieces
canonical_pair (name, value) = literal_text name then space then literal_text value

abbrev pub canonical_params : ParamsValue → Pieces
canonical_params None = words "NIL"
canonical_params (Some pairs) = list_text canonical_pair pairs

abbrev pub quoted_name : String → Pieces
quoted_name k = words "\"" then words k then words "\""

abbrev pub canonical_encoding : EncodingValue → Pieces
canonical_encoding SevenBit = quoted_name "7BIT"
canonical_encoding EightBit = quoted_name "8BIT"
canonical_encoding Binary = quoted_name "BINARY"
canonical_encoding Base64 = quoted_name "BASE64"
canonical_encoding QuotedPrintable = quoted_name "QUOTED-PRINTABLE"
canonical_encoding (Other name) = literal_text name

abbrev pub canonical_fields : FieldsValue → Pieces
canonical_fields f =
    canonical_params f.param
    then space
    then ntext f.id
    then space
    then ntext f.description
    then space
    then canonical_encoding f.transfer_encoding
    then space
    then number_text f.octets

-- ---- spelling

abbrev pub spells_pair : Text × Text → Texts
spells_pair (name, value) = spells_string_text name and behind_space (spells_string_text value)

abbrev pub spells_params : ParamsValue → Texts
spells_params = nil_or (spells_some_list spells_pair)

abbrev pub quoted_in_any_case : String → Texts
quoted_in_any_case k = exactly "\"" and in_any_case k and exactly "\""

-- nil stands for 7BIT
abbrev pub spells_encoding : EncodingValue → Texts
spells_encoding SevenBit c = quoted_in_any_case "7BIT" c ⊎ in_any_case "NIL" c
spells_encoding EightBit c = quoted_in_any_case "8BIT" c
spells_encoding Binary c = quoted_in_any_case "BINARY" c
spells_encoding Base64 c = quoted_in_any_case "BASE64" c
spells_encoding QuotedPrintable c = quoted_in_any_case "QUOTED-PRINTABLE" c
spells_encoding (Other name) c = spells_string_text name c

abbrev pub spells_fields : FieldsValue → Texts
spells_fields f =
    spells_params f.param
    and behind_space (spells_ntext f.id)
    and behind_space (spells_ntext f.description)
    and behind_space (spells_encoding f.transfer_encoding)
    and behind_space (spells_number f.octets)
