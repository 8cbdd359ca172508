-- What the structure of a body says (RFC 3501, section 9: body).
use Rattle.std.specs.Prelude.{ℕ, List, [], ◌∷◌, Option}
use Rattle.std.specs.Option.{option_map}
use Rattle.std.specs.declared.alloc.Global.{Global}
use Rattle.std.specs.declared.boxed.Box.{Box}
use Rattle.imap_grammar.specs.Text.{Text}
use Rattle.imap_body_types.specs.EnvelopeValues.{EnvelopeValue, envelope_seen}
use Rattle.imap_body_types.specs.FieldValues.{ParamsValue, params_seen, EncodingValue, encoding_seen}
use Rattle.imap_body_types.specs.ExtensionValues.{DispositionValue, disposition_seen, languages_seen, ExtensionValue, extension_seen}
use Rattle.imap_body_types.specs.declared.shapes.bodies.ContentType.{ContentType}
use Rattle.imap_body_types.specs.declared.shapes.bodies.BodyContentCommon.{BodyContentCommon}
use Rattle.imap_body_types.specs.declared.shapes.bodies.BodyContentSinglePart.{BodyContentSinglePart}
use Rattle.imap_body_types.specs.declared.shapes.bodies.BodyStructure.{BodyStructure, fold-BodyStructure}
use Rattle.imap_body_types.specs.declared.shapes.bodies.BodyStructure.TheOpen.{BodyStructure-F}

pub record TypeValue : Type 0 where
  pub ty : Text
  pub subtype : Text
  pub params : ParamsValue

abbrev pub type_seen : {S : Type 0} → (S → Text) → ContentType S → TypeValue
type_seen f x = record { ty = f x.ty; subtype = f x.subtype; params = params_seen f x.params }

pub record CommonValue : Type 0 where
  pub ty : TypeValue
  pub disposition : Option DispositionValue
  pub language : Option (List Text)
  pub location : Option Text

unfoldable pub common_seen : {S : Type 0} → (S → Text) → BodyContentCommon S → CommonValue
common_seen f x =
    record {
      ty = type_seen f x.ty;
      disposition = option_map (disposition_seen f) x.disposition;
      language = languages_seen f x.language;
      location = option_map f x.location;
    }

pub record SingleValue : Type 0 where
  pub id : Option Text
  pub md5 : Option Text
  pub description : Option Text
  pub transfer_encoding : EncodingValue
  pub octets : ℕ

unfoldable pub single_seen : {S : Type 0} → (S → Text) → BodyContentSinglePart S → SingleValue
single_seen f x =
    record {
      id = option_map f x.id;
      md5 = option_map f x.md5;
      description = option_map f x.description;
      transfer_encoding = encoding_seen f x.transfer_encoding;
      octets = x.octets;
    }

mutual
  pub data BodyValue : Type 0 where
    Basic : CommonValue → SingleValue → Option ExtensionValue → BodyValue
    TextBody : CommonValue → SingleValue → ℕ → Option ExtensionValue → BodyValue
    Message :
        CommonValue → SingleValue → EnvelopeValue → BodyValue → ℕ → Option ExtensionValue →
        BodyValue
    Multipart : CommonValue → Bodies → Option ExtensionValue → BodyValue

  pub data Bodies : Type 0 where
    no_bodies : Bodies
    one_body : BodyValue → Bodies → Bodies

-- what bodies of all kinds have
abbrev pub common_of : BodyValue → CommonValue
common_of (Basic common other last) = common
common_of (TextBody common other lines last) = common
common_of (Message common other envelope inner lines last) = common
common_of (Multipart common inner last) = common

abbrev pub extension_of : BodyValue → Option ExtensionValue
extension_of (Basic common other last) = last
extension_of (TextBody common other lines last) = last
extension_of (Message common other envelope inner lines last) = last
extension_of (Multipart common inner last) = last

abbrev pub bodies_of : List BodyValue → Bodies
bodies_of [] = no_bodies
bodies_of (b ∷ bs) = one_body b (bodies_of bs)

-- one level, with each body inside already seen
abbrev pub body_step :
    {S B : Type 0} → (S → Text) → (B → Text) → BodyStructure-F S B BodyValue → BodyValue
body_step f g (BodyStructure-F.Basic common other extension) =
    Basic (common_seen f common) (single_seen f other) (option_map (extension_seen f) extension)
body_step f g (BodyStructure-F.Text common other lines extension) =
    TextBody (common_seen f common) (single_seen f other) lines
    (option_map (extension_seen f) extension)
body_step f g (BodyStructure-F.Message common other envelope body lines extension) =
    Message (common_seen f common) (single_seen f other) (envelope_seen g envelope) body.value lines
    (option_map (extension_seen f) extension)
body_step f g (BodyStructure-F.Multipart common bodies extension) =
    Multipart (common_seen f common) (bodies_of bodies.items)
    (option_map (extension_seen f) extension)

abbrev pub body_seen : {S B : Type 0} → (S → Text) → (B → Text) → BodyStructure S B → BodyValue
body_seen {S} {B} f g = fold-BodyStructure S B BodyValue (body_step f g)

-- of one in its box
abbrev pub boxed_seen :
    {S B : Type 0} → (S → Text) → (B → Text) → Box (BodyStructure S B) Global → BodyValue
boxed_seen f g b = body_seen f g b.value
