-- What parameters, encodings and fields of a body say (RFC 3501, section 9: body-fld-param, body-fld-enc, body-fields).
use Rattle.std.specs.Prelude.{ℕ, List, Option, map}
use Rattle.std.specs.Option.{option_map}
use Rattle.std.specs.declared.alloc.Global.{Global}
use Rattle.std.specs.declared.vec.Vec.{Vec}
use Rattle.imap_grammar.specs.Text.{Text}
use Rattle.imap_body_types.specs.declared.shapes.fields.ContentEncoding.{ContentEncoding}
use Rattle.imap_body_types.specs.declared.shapes.fields.ContentEncoding.TheVariants as encoding
use Rattle.imap_body_types.specs.declared.shapes.fields.BodyFields.{BodyFields}

abbrev pub ParamsValue : Type 0
ParamsValue = Option (List (Text × Text))

abbrev pub pair_seen : {S : Type 0} → (S → Text) → S × S → Text × Text
pair_seen f p = (f p.0, f p.1)

abbrev pub params_seen : {S : Type 0} → (S → Text) → Option (Vec (S × S) Global) → ParamsValue
params_seen f params = option_map (λ v. map (pair_seen f) v.items) params

-- an encoding holds no list: its value is one of texts
abbrev pub EncodingValue : Type 0
EncodingValue = ContentEncoding Text

abbrev pub encoding_seen : {S : Type 0} → (S → Text) → ContentEncoding S → EncodingValue
encoding_seen f encoding.SevenBit = encoding.SevenBit
encoding_seen f encoding.EightBit = encoding.EightBit
encoding_seen f encoding.Binary = encoding.Binary
encoding_seen f encoding.Base64 = encoding.Base64
encoding_seen f encoding.QuotedPrintable = encoding.QuotedPrintable
encoding_seen f (encoding.Other text) = encoding.Other (f text)

-- it holds no text
abbrev pub HoldsNone : {S : Type 0} → ContentEncoding S → Type 0
HoldsNone (encoding.Other text) = ⊥
HoldsNone other = Unit {0}

pub record FieldsValue : Type 0 where
  pub param : ParamsValue
  pub id : Option Text
  pub description : Option Text
  pub transfer_encoding : EncodingValue
  pub octets : ℕ

unfoldable pub fields_seen : {S : Type 0} → (S → Text) → BodyFields S → FieldsValue
fields_seen f x =
    record {
      param = params_seen f x.param;
      id = option_map f x.id;
      description = option_map f x.description;
      transfer_encoding = encoding_seen f x.transfer_encoding;
      octets = x.octets;
    }
