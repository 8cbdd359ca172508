-- Parameters and encodings of bodies.
use Rattle.std.specs.Prelude.{Option, codes}
use Rattle.serde_json.specs.Data.{Data}
use Rattle.imap_grammar.specs.Text.{Text}
use Rattle.imap_body_types.specs.FieldValues.{ParamsValue, EncodingValue}
use Rattle.imap_body_types.specs.declared.shapes.fields.ContentEncoding.TheVariants.{SevenBit, EightBit, Binary, Base64, QuotedPrintable, Other}
use Rattle.imap_json.specs.Forms.{string_json, option_json, list_json, pair_json, variant_json}
use Rattle.imap_json.specs.Texts.{text_json}

abbrev pub ntext_json : Option Text → Data
ntext_json = option_json text_json

abbrev pub params_json : ParamsValue → Data
params_json = option_json (list_json (pair_json text_json text_json))

abbrev pub encoding_json : EncodingValue → Data
encoding_json SevenBit = string_json (codes "SevenBit")
encoding_json EightBit = string_json (codes "EightBit")
encoding_json Binary = string_json (codes "Binary")
encoding_json Base64 = string_json (codes "Base64")
encoding_json QuotedPrintable = string_json (codes "QuotedPrintable")
encoding_json (Other name) = variant_json (codes "Other") (text_json name)
