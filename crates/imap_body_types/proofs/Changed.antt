-- What values say where each text is changed: the change of what they said.
use Rattle.std.proofs.Common.{◌≡◌, refl, sym, ap, ◌∙◌, subst, List, [], ◌∷◌, Option, None, Some, map, Vec, Global}
use Rattle.std.specs.Option.{option_map}
use Rattle.imap_grammar.specs.Text.{Text}
use Rattle.imap_body_types.specs.EnvelopeValues.{address_seen, addresses_seen, envelope_seen}
use Rattle.imap_body_types.specs.FieldValues.{pair_seen, params_seen, encoding_seen, fields_seen}
use Rattle.imap_body_types.specs.ExtensionValues.{disposition_seen, languages_seen, ExtensionValue, Str, Listed, one_extension, extensions_of, extension_step, extension_seen, ext_1part_seen, ext_mpart_seen}
use Rattle.imap_body_types.specs.BodyValues.{type_seen, common_seen, single_seen, BodyValue, Basic, TextBody, Message, Multipart, one_body, bodies_of, body_step, body_seen}
use Rattle.imap_body_types.specs.Changed.{changed_ntext, changed_address, changed_addresses, changed_envelope, changed_pair, changed_params, changed_encoding, changed_fields, changed_disposition, changed_languages, changed_extension, changed_extensions, changed_ext_1part, changed_ext_mpart, changed_type, changed_common, changed_single, changed_last, changed_body, changed_bodies}
use Rattle.imap_body_types.specs.declared.shapes.envelopes.Address.{Address}
use Rattle.imap_body_types.specs.declared.shapes.envelopes.Envelope.{Envelope}
use Rattle.imap_body_types.specs.declared.shapes.fields.BodyFields.{BodyFields}
use Rattle.imap_body_types.specs.declared.shapes.fields.ContentEncoding.{ContentEncoding}
use Rattle.imap_body_types.specs.declared.shapes.fields.ContentEncoding.TheVariants as encoding
use Rattle.imap_body_types.specs.declared.shapes.extensions.ContentDisposition.{ContentDisposition}
use Rattle.imap_body_types.specs.declared.shapes.extensions.BodyExt1Part.{BodyExt1Part}
use Rattle.imap_body_types.specs.declared.shapes.extensions.BodyExtMPart.{BodyExtMPart}
use Rattle.imap_body_types.specs.declared.shapes.extensions.BodyExtension.{BodyExtension}
use Rattle.imap_body_types.specs.declared.shapes.extensions.BodyExtension.TheOpen as extension_layer
use Rattle.imap_body_types.specs.declared.shapes.extensions.BodyExtension.TheOpen.{BodyExtension-F}
use Rattle.imap_body_types.specs.declared.shapes.extensions.BodyExtension.TheFolds.{ind-BodyExtension, map-BodyExtension, fold-roll-BodyExtension}
use Rattle.imap_body_types.specs.declared.shapes.extensions.BodyExtension.TheViews.{roll-BodyExtension}
use Rattle.imap_body_types.specs.declared.shapes.bodies.ContentType.{ContentType}
use Rattle.imap_body_types.specs.declared.shapes.bodies.BodyContentCommon.{BodyContentCommon}
use Rattle.imap_body_types.specs.declared.shapes.bodies.BodyContentSinglePart.{BodyContentSinglePart}
use Rattle.imap_body_types.specs.declared.shapes.bodies.BodyStructure.{BodyStructure}
use Rattle.imap_body_types.specs.declared.shapes.bodies.BodyStructure.TheOpen as body_layer
use Rattle.imap_body_types.specs.declared.shapes.bodies.BodyStructure.TheOpen.{BodyStructure-F}
use Rattle.imap_body_types.specs.declared.shapes.bodies.BodyStructure.TheFolds.{ind-BodyStructure, map-BodyStructure, fold-roll-BodyStructure}
use Rattle.imap_body_types.specs.declared.shapes.bodies.BodyStructure.TheViews.{roll-BodyStructure}

-- ---- what may be missing, and lists

-- where a view changes with its texts, so does that of what may be missing, and of a list
pub option_changed : {A V : Type 0} (seen after : A → V) (change : V → V) → ((x : A) → after x ≡ change (seen x)) → (o : Option A) → option_map after o ≡ option_map change (option_map seen o)
option_changed seen after change is None = refl
option_changed seen after change is (Some x) = ap Some (is x)

pub list_changed : {A V : Type 0} (seen after : A → V) (change : V → V) → ((x : A) → after x ≡ change (seen x)) → (xs : List A) → map after xs ≡ map change (map seen xs)
list_changed seen after change is [] = refl
list_changed seen after change is (x ∷ xs) = λ i. is x i ∷ list_changed seen after change is xs i

module _ {S : Type 0} (f : S → Text) (h : Text → Text) where
  abbrev after : S → Text
  after s = h (f s)

  ntext_changed : (o : Option S) → option_map after o ≡ changed_ntext h (option_map f o)
  ntext_changed o = option_changed f after h (λ x. refl) o

  pub address_changed : (a : Address S) → address_seen after a ≡ changed_address h (address_seen f a)
  address_changed a = λ i. record { name = ntext_changed a.name i; adl = ntext_changed a.adl i; mailbox = ntext_changed a.mailbox i; host = ntext_changed a.host i }

  addresses_changed : (o : Option (Vec (Address S) Global)) → addresses_seen after o ≡ changed_addresses h (addresses_seen f o)
  addresses_changed o = option_changed (λ v. map (address_seen f) v.items) (λ v. map (address_seen after) v.items) (map (changed_address h)) (λ v. list_changed (address_seen f) (address_seen after) (changed_address h) address_changed v.items) o

  pub envelope_changed : (e : Envelope S) → envelope_seen after e ≡ changed_envelope h (envelope_seen f e)
  unfolding envelope_seen
  envelope_changed e = λ i.
      record {
        date = ntext_changed e.date i;
        subject = ntext_changed e.subject i;
        from = addresses_changed e.from i;
        sender = addresses_changed e.sender i;
        reply_to = addresses_changed e.reply_to i;
        to = addresses_changed e.to i;
        cc = addresses_changed e.cc i;
        bcc = addresses_changed e.bcc i;
        in_reply_to = ntext_changed e.in_reply_to i;
        message_id = ntext_changed e.message_id i;
      }

  pub params_changed : (o : Option (Vec (S × S) Global)) → params_seen after o ≡ changed_params h (params_seen f o)
  params_changed o = option_changed (λ v. map (pair_seen f) v.items) (λ v. map (pair_seen after) v.items) (map (changed_pair h)) (λ v. list_changed (pair_seen f) (pair_seen after) (changed_pair h) (λ p. refl) v.items) o

  pub encoding_changed : (x : ContentEncoding S) → encoding_seen after x ≡ changed_encoding h (encoding_seen f x)
  encoding_changed encoding.SevenBit = refl
  encoding_changed encoding.EightBit = refl
  encoding_changed encoding.Binary = refl
  encoding_changed encoding.Base64 = refl
  encoding_changed encoding.QuotedPrintable = refl
  encoding_changed (encoding.Other text) = refl

  pub fields_changed : (x : BodyFields S) → fields_seen after x ≡ changed_fields h (fields_seen f x)
  unfolding fields_seen
  fields_changed x = λ i.
      record {
        param = params_changed x.param i;
        id = ntext_changed x.id i;
        description = ntext_changed x.description i;
        transfer_encoding = encoding_changed x.transfer_encoding i;
        octets = x.octets;
      }

  languages_changed : (o : Option (Vec S Global)) → languages_seen after o ≡ changed_languages h (languages_seen f o)
  languages_changed o = option_changed (λ v. map f v.items) (λ v. map after v.items) (map h) (λ v. list_changed f after h (λ x. refl) v.items) o

  pub disposition_changed : (d : ContentDisposition S) → disposition_seen after d ≡ changed_disposition h (disposition_seen f d)
  disposition_changed d = λ i. record { ty = h (f d.ty); params = params_changed d.params i }

  -- ---- extension data

  abbrev ExtensionChanged : BodyExtension S → Type 0
  ExtensionChanged x = extension_seen after x ≡ changed_extension h (extension_seen f x)

  extensions_changed : (vs : List ((x : BodyExtension S) × ExtensionChanged x)) → extensions_of (map (extension_seen after) (map (λ e. e.0) vs)) ≡ changed_extensions h (extensions_of (map (extension_seen f) (map (λ e. e.0) vs)))
  extensions_changed [] = refl
  extensions_changed (v ∷ vs) = λ i. one_extension (v.1 i) (extensions_changed vs i)

  abbrev extension_under : BodyExtension-F S ((x : BodyExtension S) × ExtensionChanged x) → BodyExtension-F S (BodyExtension S)
  extension_under y = map-BodyExtension S ((x : BodyExtension S) × ExtensionChanged x) (BodyExtension S) (λ e. e.0) y

  extension_at : (y : BodyExtension-F S ((x : BodyExtension S) × ExtensionChanged x))
      → extension_step after (map-BodyExtension S (BodyExtension S) ExtensionValue (extension_seen after) (extension_under y)) ≡ changed_extension h (extension_step f (map-BodyExtension S (BodyExtension S) ExtensionValue (extension_seen f) (extension_under y)))
  extension_at (extension_layer.Num n) = refl
  extension_at (extension_layer.Str text) = ap Str (ntext_changed text)
  extension_at (extension_layer.List members) = ap Listed (extensions_changed members.items)

  pub extension_changed : (x : BodyExtension S) → ExtensionChanged x
  extension_changed = ind-BodyExtension S ExtensionChanged (λ x y is. subst (λ z. ExtensionChanged (roll-BodyExtension S z)) is
      (fold-roll-BodyExtension S ExtensionValue (extension_step after) (extension_under y) ∙ extension_at y ∙ sym (ap (changed_extension h) (fold-roll-BodyExtension S ExtensionValue (extension_step f) (extension_under y)))))

  last_changed : (o : Option (BodyExtension S)) → option_map (extension_seen after) o ≡ changed_last h (option_map (extension_seen f) o)
  last_changed o = option_changed (extension_seen f) (extension_seen after) (changed_extension h) extension_changed o

  dispositions_changed : (o : Option (ContentDisposition S)) → option_map (disposition_seen after) o ≡ option_map (changed_disposition h) (option_map (disposition_seen f) o)
  dispositions_changed o = option_changed (disposition_seen f) (disposition_seen after) (changed_disposition h) disposition_changed o

  pub ext_1part_changed : (x : BodyExt1Part S) → ext_1part_seen after x ≡ changed_ext_1part h (ext_1part_seen f x)
  unfolding ext_1part_seen
  ext_1part_changed x = λ i.
      record {
        md5 = ntext_changed x.md5 i;
        disposition = dispositions_changed x.disposition i;
        language = languages_changed x.language i;
        location = ntext_changed x.location i;
        extension = last_changed x.extension i;
      }

  pub ext_mpart_changed : (x : BodyExtMPart S) → ext_mpart_seen after x ≡ changed_ext_mpart h (ext_mpart_seen f x)
  unfolding ext_mpart_seen
  ext_mpart_changed x = λ i.
      record {
        param = params_changed x.param i;
        disposition = dispositions_changed x.disposition i;
        language = languages_changed x.language i;
        location = ntext_changed x.location i;
        extension = last_changed x.extension i;
      }

  -- ---- structures of bodies

  pub type_changed : (t : ContentType S) → type_seen after t ≡ changed_type h (type_seen f t)
  type_changed t = λ i. record { ty = h (f t.ty); subtype = h (f t.subtype); params = params_changed t.params i }

  pub common_changed : (c : BodyContentCommon S) → common_seen after c ≡ changed_common h (common_seen f c)
  unfolding common_seen
  common_changed c = λ i.
      record {
        ty = type_changed c.ty i;
        disposition = dispositions_changed c.disposition i;
        language = languages_changed c.language i;
        location = ntext_changed c.location i;
      }

  pub single_changed : (s : BodyContentSinglePart S) → single_seen after s ≡ changed_single h (single_seen f s)
  unfolding single_seen
  single_changed s = λ i.
      record {
        id = ntext_changed s.id i;
        md5 = ntext_changed s.md5 i;
        description = ntext_changed s.description i;
        transfer_encoding = encoding_changed s.transfer_encoding i;
        octets = s.octets;
      }

module _ {S B : Type 0} (f : S → Text) (g : B → Text) (h : Text → Text) where
  abbrev BodyChanged : BodyStructure S B → Type 0
  BodyChanged b = body_seen (after f h) (after g h) b ≡ changed_body h (body_seen f g b)

  bodies_changed : (vs : List ((b : BodyStructure S B) × BodyChanged b)) → bodies_of (map (body_seen (after f h) (after g h)) (map (λ e. e.0) vs)) ≡ changed_bodies h (bodies_of (map (body_seen f g) (map (λ e. e.0) vs)))
  bodies_changed [] = refl
  bodies_changed (v ∷ vs) = λ i. one_body (v.1 i) (bodies_changed vs i)

  abbrev body_under : BodyStructure-F S B ((b : BodyStructure S B) × BodyChanged b) → BodyStructure-F S B (BodyStructure S B)
  body_under y = map-BodyStructure S B ((b : BodyStructure S B) × BodyChanged b) (BodyStructure S B) (λ e. e.0) y

  body_at : (y : BodyStructure-F S B ((b : BodyStructure S B) × BodyChanged b))
      → body_step (after f h) (after g h) (map-BodyStructure S B (BodyStructure S B) BodyValue (body_seen (after f h) (after g h)) (body_under y)) ≡ changed_body h (body_step f g (map-BodyStructure S B (BodyStructure S B) BodyValue (body_seen f g) (body_under y)))
  body_at (body_layer.Basic common other last) = λ i. Basic (common_changed f h common i) (single_changed f h other i) (last_changed f h last i)
  body_at (body_layer.Text common other lines last) = λ i. TextBody (common_changed f h common i) (single_changed f h other i) lines (last_changed f h last i)
  body_at (body_layer.Message common other envelope inner lines last) = λ i. Message (common_changed f h common i) (single_changed f h other i) (envelope_changed g h envelope i) (inner.value.1 i) lines (last_changed f h last i)
  body_at (body_layer.Multipart common bodies last) = λ i. Multipart (common_changed f h common i) (bodies_changed bodies.items i) (last_changed f h last i)

  pub body_changed : (b : BodyStructure S B) → BodyChanged b
  body_changed = ind-BodyStructure S B BodyChanged (λ x y is. subst (λ z. BodyChanged (roll-BodyStructure S B z)) is
      (fold-roll-BodyStructure S B BodyValue (body_step (after f h) (after g h)) (body_under y) ∙ body_at y ∙ sym (ap (changed_body h) (fold-roll-BodyStructure S B BodyValue (body_step f g) (body_under y)))))
