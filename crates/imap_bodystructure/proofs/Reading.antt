-- What a body says that was made of the parts that were kept, and what it rests on.
use Rattle.std.proofs.Common.{◌≡◌, ℕ, List, refl, sym, ◌∙◌, map, codes, Vec, Box, Global, Ok}
use Rattle.imap_grammar.specs.Text.{Text, as_text}
use Rattle.imap_body_types.specs.declared.shapes.envelopes.Envelope.{Envelope}
use Rattle.imap_body_types.specs.declared.shapes.fields.BodyFields.{BodyFields}
use Rattle.imap_body_types.specs.declared.shapes.extensions.BodyExt1Part.{BodyExt1Part}
use Rattle.imap_body_types.specs.declared.shapes.extensions.BodyExtMPart.{BodyExtMPart}
use Rattle.imap_body_types.specs.declared.shapes.bodies.BodyContentCommon.{BodyContentCommon}
use Rattle.imap_body_types.specs.declared.shapes.bodies.BodyContentSinglePart.{BodyContentSinglePart}
use Rattle.imap_body_types.specs.declared.shapes.bodies.BodyStructure.{BodyStructure}
use Rattle.imap_body_types.specs.declared.shapes.bodies.BodyStructure.TheVariants as body
use Rattle.imap_body_types.specs.EnvelopeValues.{EnvelopeValue, envelope_seen}
use Rattle.imap_body_types.specs.FieldValues.{FieldsValue, fields_seen}
use Rattle.imap_body_types.specs.ExtensionValues.{Ext1PartValue, ext_1part_seen, ExtMPartValue, ext_mpart_seen}
use Rattle.imap_body_types.specs.BodyValues.{BodyValue, TextBody, Message, Multipart, bodies_of, common_seen, single_seen, body_seen, boxed_seen}
use Rattle.imap_body_types.proofs.Trees.{text_seen, basic_seen, message_seen, multipart_seen}
use Rattle.imap_grammar.specs.Step.{step}
use Rattle.imap_grammar.specs.Tags.{word}
use Rattle.imap_bytes.specs.Numbers.{number}
use Rattle.imap_bytes.specs.Texts.{string_utf8}
use Rattle.imap_envelopes.specs.Envelopes.{spaced, envelope}
use Rattle.imap_bodystructure.specs.Fields.{body_fields}
use Rattle.imap_bodystructure.specs.Extensions.{body_ext_1part, body_ext_mpart}
use Rattle.imap_bodystructure.specs.Bodies.{common_of_parts, single_of, basic_of, message_word, body_type_text, body_type_basic, body_type_msg, body_type_mpart, some_bodies, body as body_at}
use Rattle.imap_body_types.specs.Spans.{Lookup, Rests}

abbrev pub common_parts : {S : Type 0} → S → S → BodyFields S → BodyExt1Part S → BodyContentCommon S
common_parts ty subtype fields ext = record { ty = record { ty = ty; subtype = subtype; params = fields.param }; disposition = ext.disposition; language = ext.language; location = ext.location }

abbrev pub single_parts : {S : Type 0} → BodyFields S → BodyExt1Part S → BodyContentSinglePart S
single_parts fields ext = record { id = fields.id; md5 = ext.md5; description = fields.description; transfer_encoding = fields.transfer_encoding; octets = fields.octets }

abbrev pub multipart_parts : {S : Type 0} → S → S → BodyExtMPart S → BodyContentCommon S
multipart_parts ty subtype ext = record { ty = record { ty = ty; subtype = subtype; params = ext.param }; disposition = ext.disposition; language = ext.language; location = ext.location }

-- ---- values, whatever texts stand in the place of those that a rule fixes

abbrev text_made : Text → Text × (FieldsValue × (ℕ × Ext1PartValue)) → BodyValue
text_made ty v = TextBody (common_of_parts ty v.0 v.1.0 v.1.1.1) (single_of v.1.0 v.1.1.1) v.1.1.0 v.1.1.1.extension

abbrev message_made : Text → Text → FieldsValue × (EnvelopeValue × (BodyValue × (ℕ × Ext1PartValue))) → BodyValue
message_made ty subtype v = Message (common_of_parts ty subtype v.0 v.1.1.1.1) (single_of v.0 v.1.1.1.1) v.1.0 v.1.1.0 v.1.1.1.0 v.1.1.1.1.extension

abbrev multipart_made : Text → List BodyValue × (Text × ExtMPartValue) → BodyValue
multipart_made ty v = Multipart (record { ty = record { ty = ty; subtype = v.1.0; params = v.1.1.param }; disposition = v.1.1.disposition; language = v.1.1.language; location = v.1.1.location }) (bodies_of v.0) v.1.1.extension

module _ {S B : Type 0} (f : S → Text) (g : B → Text) where
  pub text_read : (ty subtype : S) (fields : BodyFields S) (lines : ℕ) (ext : BodyExt1Part S)
      → body_seen f g (body.Text (common_parts ty subtype fields ext) (single_parts fields ext) lines ext.extension) ≡ text_made (f ty) (f subtype, (fields_seen f fields, (lines, ext_1part_seen f ext)))
  unfolding common_seen single_seen fields_seen ext_1part_seen
  text_read ty subtype fields lines ext = text_seen f g (common_parts ty subtype fields ext) (single_parts fields ext) lines ext.extension

  pub basic_read : (ty subtype : S) (fields : BodyFields S) (ext : BodyExt1Part S)
      → body_seen f g (body.Basic (common_parts ty subtype fields ext) (single_parts fields ext) ext.extension) ≡ basic_of (f ty, (f subtype, (fields_seen f fields, ext_1part_seen f ext)))
  unfolding common_seen single_seen fields_seen ext_1part_seen
  basic_read ty subtype fields ext = basic_seen f g (common_parts ty subtype fields ext) (single_parts fields ext) ext.extension

  pub message_read : (ty subtype : S) (fields : BodyFields S) (envelope : Envelope B) (inner : Box (BodyStructure S B) Global) (lines : ℕ) (ext : BodyExt1Part S)
      → body_seen f g (body.Message (common_parts ty subtype fields ext) (single_parts fields ext) envelope inner lines ext.extension) ≡ message_made (f ty) (f subtype) (fields_seen f fields, (envelope_seen g envelope, (body_seen f g inner.value, (lines, ext_1part_seen f ext))))
  unfolding common_seen single_seen fields_seen ext_1part_seen
  message_read ty subtype fields envelope inner lines ext = message_seen f g (common_parts ty subtype fields ext) (single_parts fields ext) envelope inner lines ext.extension

  pub multipart_read : (bodies : Vec (BodyStructure S B) Global) (ty subtype : S) (ext : BodyExtMPart S)
      → body_seen f g (body.Multipart (multipart_parts ty subtype ext) bodies ext.extension) ≡ multipart_made (f ty) (map (body_seen f g) bodies.items, (f subtype, ext_mpart_seen f ext))
  unfolding common_seen ext_mpart_seen
  multipart_read bodies ty subtype ext = multipart_seen f g (multipart_parts ty subtype ext) bodies ext.extension

  -- ---- what is read where each part is

  pub text_reads : (m0 m1 m2 m3 m4 m5 word_read : List ℕ) (ty subtype : S) (fields : BodyFields S) (lines : ℕ) (ext : BodyExt1Part S) → f ty ≡ as_text (codes "TEXT")
      → step (word "\"TEXT\"") m0 ≡ Ok (m1, word_read) → step (spaced string_utf8) m1 ≡ Ok (m2, f subtype) → step (spaced body_fields) m2 ≡ Ok (m3, fields_seen f fields) → step (spaced number) m3 ≡ Ok (m4, lines) → step body_ext_1part m4 ≡ Ok (m5, ext_1part_seen f ext)
      → step body_type_text m0 ≡ Ok (m5, body_seen f g (body.Text (common_parts ty subtype fields ext) (single_parts fields ext) lines ext.extension))
  unfolding body_type_text
  text_reads m0 m1 m2 m3 m4 m5 word_read ty subtype fields lines ext is e1 e2 e3 e4 e5 = rw (text_read ty subtype fields lines ext, is, e1, e2, e3, e4, e5) refl

  pub basic_reads : (m0 m1 m2 m3 m4 : List ℕ) (ty subtype : S) (fields : BodyFields S) (ext : BodyExt1Part S)
      → step string_utf8 m0 ≡ Ok (m1, f ty) → step (spaced string_utf8) m1 ≡ Ok (m2, f subtype) → step (spaced body_fields) m2 ≡ Ok (m3, fields_seen f fields) → step body_ext_1part m3 ≡ Ok (m4, ext_1part_seen f ext)
      → step body_type_basic m0 ≡ Ok (m4, body_seen f g (body.Basic (common_parts ty subtype fields ext) (single_parts fields ext) ext.extension))
  unfolding body_type_basic
  basic_reads m0 m1 m2 m3 m4 ty subtype fields ext e1 e2 e3 e4 = rw (basic_read ty subtype fields ext, e1, e2, e3, e4) refl

  pub message_reads : (level : ℕ) (m0 m1 m2 m3 m4 m5 m6 word_read : List ℕ) (ty subtype : S) (fields : BodyFields S) (envelope_read : Envelope B) (inner : BodyStructure S B) (boxed : Box (BodyStructure S B) Global) (lines : ℕ) (ext : BodyExt1Part S)
      → f ty ≡ as_text (codes "MESSAGE") → f subtype ≡ as_text (codes "RFC822") → boxed.value ≡ inner
      → step message_word m0 ≡ Ok (m1, word_read) → step (spaced body_fields) m1 ≡ Ok (m2, fields_seen f fields) → step (spaced envelope) m2 ≡ Ok (m3, envelope_seen g envelope_read) → step (spaced (body_at level)) m3 ≡ Ok (m4, body_seen f g inner)
      → step (spaced number) m4 ≡ Ok (m5, lines) → step body_ext_1part m5 ≡ Ok (m6, ext_1part_seen f ext)
      → step (body_type_msg (body_at level)) m0 ≡ Ok (m6, body_seen f g (body.Message (common_parts ty subtype fields ext) (single_parts fields ext) envelope_read boxed lines ext.extension))
  unfolding body_type_msg
  message_reads level m0 m1 m2 m3 m4 m5 m6 word_read ty subtype fields envelope_read inner boxed lines ext ty_is subtype_is is e1 e2 e3 e4 e5 e6 = rw (message_read ty subtype fields envelope_read boxed lines ext, ty_is, subtype_is, is, e1, e2, e3, e4, e5, e6) refl

  pub multipart_reads : (level : ℕ) (m0 m1 m2 m3 : List ℕ) (bodies : Vec (BodyStructure S B) Global) (ty subtype : S) (ext : BodyExtMPart S) → f ty ≡ as_text (codes "MULTIPART")
      → step (some_bodies (body_at level)) m0 ≡ Ok (m1, map (body_seen f g) bodies.items) → step (spaced string_utf8) m1 ≡ Ok (m2, f subtype) → step body_ext_mpart m2 ≡ Ok (m3, ext_mpart_seen f ext)
      → step (body_type_mpart (body_at level)) m0 ≡ Ok (m3, body_seen f g (body.Multipart (multipart_parts ty subtype ext) bodies ext.extension))
  unfolding body_type_mpart
  multipart_reads level m0 m1 m2 m3 bodies ty subtype ext is e1 e2 e3 = rw (multipart_read bodies ty subtype ext, is, e1, e2, e3) refl

-- ---- what they rest on

module _ {S B : Type 0} (said : Lookup → S → Text) (told : Lookup → B → Text) (q : ℕ) where
  abbrev Text_rests : S → Type 0
  Text_rests x = Rests said q x

  abbrev Fields_rest : BodyFields S → Type 0
  Fields_rest x = Rests (λ n y. fields_seen (said n) y) q x

  abbrev Ext_rests : BodyExt1Part S → Type 0
  Ext_rests x = Rests (λ n y. ext_1part_seen (said n) y) q x

  abbrev Body_rests : BodyStructure S B → Type 0
  Body_rests x = Rests (λ n y. body_seen (said n) (told n) y) q x

  pub text_rests : (ty subtype : S) (fields : BodyFields S) (lines : ℕ) (ext : BodyExt1Part S) → Text_rests ty → Text_rests subtype → Fields_rest fields → Ext_rests ext
      → Body_rests (body.Text (common_parts ty subtype fields ext) (single_parts fields ext) lines ext.extension)
  text_rests ty subtype fields lines ext t s f e = record { same = λ n k alike. text_read (said n) (told n) ty subtype fields lines ext ∙ rw (t.same n k alike, s.same n k alike, f.same n k alike, e.same n k alike) refl ∙ sym (text_read (said k) (told k) ty subtype fields lines ext) }

  pub basic_rests : (ty subtype : S) (fields : BodyFields S) (ext : BodyExt1Part S) → Text_rests ty → Text_rests subtype → Fields_rest fields → Ext_rests ext
      → Body_rests (body.Basic (common_parts ty subtype fields ext) (single_parts fields ext) ext.extension)
  basic_rests ty subtype fields ext t s f e = record { same = λ n k alike. basic_read (said n) (told n) ty subtype fields ext ∙ rw (t.same n k alike, s.same n k alike, f.same n k alike, e.same n k alike) refl ∙ sym (basic_read (said k) (told k) ty subtype fields ext) }

  pub message_rests : (ty subtype : S) (fields : BodyFields S) (envelope : Envelope B) (inner : Box (BodyStructure S B) Global) (lines : ℕ) (ext : BodyExt1Part S)
      → Text_rests ty → Text_rests subtype → Fields_rest fields → Rests (λ n y. envelope_seen (told n) y) q envelope → Body_rests inner.value → Ext_rests ext
      → Body_rests (body.Message (common_parts ty subtype fields ext) (single_parts fields ext) envelope inner lines ext.extension)
  message_rests ty subtype fields envelope inner lines ext t s f v b e = record { same = λ n k alike. message_read (said n) (told n) ty subtype fields envelope inner lines ext ∙ rw (t.same n k alike, s.same n k alike, f.same n k alike, v.same n k alike, b.same n k alike, e.same n k alike) refl ∙ sym (message_read (said k) (told k) ty subtype fields envelope inner lines ext) }

  pub multipart_rests : (bodies : Vec (BodyStructure S B) Global) (ty subtype : S) (ext : BodyExtMPart S) → Rests (λ n x. map (body_seen (said n) (told n)) x.items) q bodies → Text_rests ty → Text_rests subtype → Rests (λ n y. ext_mpart_seen (said n) y) q ext
      → Body_rests (body.Multipart (multipart_parts ty subtype ext) bodies ext.extension)
  multipart_rests bodies ty subtype ext b t s e = record { same = λ n k alike. multipart_read (said n) (told n) bodies ty subtype ext ∙ rw (b.same n k alike, t.same n k alike, s.same n k alike, e.same n k alike) refl ∙ sym (multipart_read (said k) (told k) bodies ty subtype ext) }

  -- a boxed body rests on what the body does
  pub boxed_rests : (b : Box (BodyStructure S B) Global) (x : BodyStructure S B) → b.value ≡ x → Body_rests x → Rests (λ n y. boxed_seen (said n) (told n) y) q b
  boxed_rests b x is h = record { same = λ n k alike. rw is (h.same n k alike) }

  pub unboxed_rests : (b : Box (BodyStructure S B) Global) → Rests (λ n y. boxed_seen (said n) (told n) y) q b → Body_rests b.value
  unboxed_rests b h = record { same = λ n k alike. h.same n k alike }
