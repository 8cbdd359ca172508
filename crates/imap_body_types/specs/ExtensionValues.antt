-- What extension data of a body says (RFC 3501, section 9: body-fld-dsp, body-extension, body-ext-1part,
-- body-ext-mpart).
use Rattle.std.specs.Prelude.{ℕ, List, [], ◌∷◌, Option, map}
use Rattle.std.specs.Option.{option_map}
use Rattle.std.specs.declared.alloc.Global.{Global}
use Rattle.std.specs.declared.vec.Vec.{Vec}
use Rattle.imap_grammar.specs.Text.{Text}
use Rattle.imap_body_types.specs.FieldValues.{ParamsValue, params_seen}
use Rattle.imap_body_types.specs.declared.shapes.extensions.ContentDisposition.{ContentDisposition}
use Rattle.imap_body_types.specs.declared.shapes.extensions.BodyExtension.{BodyExtension, fold-BodyExtension}
use Rattle.imap_body_types.specs.declared.shapes.extensions.BodyExtension.TheOpen.{BodyExtension-F}
use Rattle.imap_body_types.specs.declared.shapes.extensions.BodyExt1Part.{BodyExt1Part}
use Rattle.imap_body_types.specs.declared.shapes.extensions.BodyExtMPart.{BodyExtMPart}

pub record DispositionValue : Type 0 where
  pub ty : Text
  pub params : ParamsValue

abbrev pub disposition_seen : {S : Type 0} → (S → Text) → ContentDisposition S → DispositionValue
disposition_seen f d = record { ty = f d.ty; params = params_seen f d.params }

abbrev pub languages_seen : {S : Type 0} → (S → Text) → Option (Vec S Global) → Option (List Text)
languages_seen f l = option_map (λ v. map f v.items) l

mutual
  pub data ExtensionValue : Type 0 where
    Num : ℕ → ExtensionValue
    Str : Option Text → ExtensionValue
    Listed : Extensions → ExtensionValue

  pub data Extensions : Type 0 where
    no_extensions : Extensions
    one_extension : ExtensionValue → Extensions → Extensions

abbrev pub extensions_of : List ExtensionValue → Extensions
extensions_of [] = no_extensions
extensions_of (e ∷ es) = one_extension e (extensions_of es)

-- one level, with each extension inside already seen
abbrev pub extension_step :
    {S : Type 0} → (S → Text) → BodyExtension-F S ExtensionValue → ExtensionValue
extension_step f (BodyExtension-F.Num n) = Num n
extension_step f (BodyExtension-F.Str text) = Str (option_map f text)
extension_step f (BodyExtension-F.List members) = Listed (extensions_of members.items)

abbrev pub extension_seen : {S : Type 0} → (S → Text) → BodyExtension S → ExtensionValue
extension_seen {S} f = fold-BodyExtension S ExtensionValue (extension_step f)

pub record Ext1PartValue : Type 0 where
  pub md5 : Option Text
  pub disposition : Option DispositionValue
  pub language : Option (List Text)
  pub location : Option Text
  pub extension : Option ExtensionValue

unfoldable pub ext_1part_seen : {S : Type 0} → (S → Text) → BodyExt1Part S → Ext1PartValue
ext_1part_seen f x =
    record {
      md5 = option_map f x.md5;
      disposition = option_map (disposition_seen f) x.disposition;
      language = languages_seen f x.language;
      location = option_map f x.location;
      extension = option_map (extension_seen f) x.extension;
    }

pub record ExtMPartValue : Type 0 where
  pub param : ParamsValue
  pub disposition : Option DispositionValue
  pub language : Option (List Text)
  pub location : Option Text
  pub extension : Option ExtensionValue

unfoldable pub ext_mpart_seen : {S : Type 0} → (S → Text) → BodyExtMPart S → ExtMPartValue
ext_mpart_seen f x =
    record {
      param = params_seen f x.param;
      disposition = option_map (disposition_seen f) x.disposition;
      language = languages_seen f x.language;
      location = option_map f x.location;
      extension = option_map (extension_seen f) x.extension;
    }
