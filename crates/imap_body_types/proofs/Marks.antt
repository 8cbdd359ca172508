-- A text's mark is whether it is borrowed. Where all texts of a value are marked alike twice, the later mark stays.
use Rattle.std.proofs.Common.{Bool, ap, ap₂, refl, map}
use Rattle.std.specs.Option.{option_map}
use Rattle.imap_grammar.proofs.Marks.{LaterStays, lists, options, texts, ntext}
use Rattle.imap_body_types.specs.declared.shapes.fields.ContentEncoding.TheVariants.{SevenBit, EightBit, Binary, Base64, QuotedPrintable, Other}
use Rattle.imap_body_types.specs.ExtensionValues.{Num, Str, Listed, no_extensions, one_extension}
use Rattle.imap_body_types.specs.BodyValues.{Basic, TextBody, Message, Multipart, no_bodies, one_body}
use Rattle.imap_body_types.specs.Changed.{changed_address, changed_addresses, changed_envelope, changed_pair, changed_params, changed_encoding, changed_fields, changed_disposition, changed_languages, changed_extension, changed_extensions, changed_last, changed_ext_1part, changed_ext_mpart, changed_type, changed_common, changed_single, changed_body, changed_bodies}

-- marked with l, and then with k
module _ (k l : Bool) where
  -- ---- envelopes

  pub address : LaterStays k l changed_address
  address a = rw (ntext k l a.name, ntext k l a.adl, ntext k l a.mailbox, ntext k l a.host) refl

  addresses : LaterStays k l changed_addresses
  addresses = options k l (λ h. map (changed_address h)) (lists k l changed_address address)

  pub envelope : LaterStays k l changed_envelope
  envelope e =
      rw (ntext k l e.date, ntext k l e.subject, addresses e.from, addresses e.sender, addresses e.reply_to, addresses e.to, addresses e.cc, addresses e.bcc, ntext k l e.in_reply_to, ntext k l e.message_id) refl

  -- ---- fields

  pub params : LaterStays k l changed_params
  params = options k l (λ h. map (changed_pair h)) (lists k l changed_pair (λ p. refl))

  pub encoding : LaterStays k l changed_encoding
  encoding SevenBit = refl
  encoding EightBit = refl
  encoding Binary = refl
  encoding Base64 = refl
  encoding QuotedPrintable = refl
  encoding (Other t) = refl

  pub fields : LaterStays k l changed_fields
  fields f = rw (params f.param, ntext k l f.id, ntext k l f.description, encoding f.transfer_encoding) refl

  -- ---- extension data

  pub disposition : LaterStays k l changed_disposition
  disposition d = rw (params d.params) refl

  mutual
    pub extension : LaterStays k l changed_extension
    extension (Num n) = refl
    extension (Str t) = ap (λ x. Str x) (ntext k l t)
    extension (Listed es) = ap (λ x. Listed x) (extensions es)

    extensions : LaterStays k l changed_extensions
    extensions no_extensions = refl
    extensions (one_extension e es) = ap₂ (λ x xs. one_extension x xs) (extension e) (extensions es)

  last : LaterStays k l changed_last
  last = options k l changed_extension extension

  dispositions : LaterStays k l (λ h. option_map (changed_disposition h))
  dispositions = options k l changed_disposition disposition

  languages : LaterStays k l changed_languages
  languages = options k l (λ h. map h) (texts k l)

  pub ext_1part : LaterStays k l changed_ext_1part
  ext_1part e = rw (ntext k l e.md5, dispositions e.disposition, languages e.language, ntext k l e.location, last e.extension) refl

  pub ext_mpart : LaterStays k l changed_ext_mpart
  ext_mpart e = rw (params e.param, dispositions e.disposition, languages e.language, ntext k l e.location, last e.extension) refl

  -- ---- structures of bodies

  pub type : LaterStays k l changed_type
  type t = rw (params t.params) refl

  pub common : LaterStays k l changed_common
  common c = rw (type c.ty, dispositions c.disposition, languages c.language, ntext k l c.location) refl

  pub single : LaterStays k l changed_single
  single s = rw (ntext k l s.id, ntext k l s.md5, ntext k l s.description, encoding s.transfer_encoding) refl

  mutual
    pub body : LaterStays k l changed_body
    body (Basic c s e) = rw (common c, single s, last e) refl
    body (TextBody c s n e) = rw (common c, single s, last e) refl
    body (Message c s v m n e) = rw (common c, single s, envelope v, body m, last e) refl
    body (Multipart c bs e) = rw (common c, bodies bs, last e) refl

    bodies : LaterStays k l changed_bodies
    bodies no_bodies = refl
    bodies (one_body m ms) = ap₂ (λ x xs. one_body x xs) (body m) (bodies ms)
