-- Envelopes, bodies and attributes have one canonical text, whichever of their texts are borrowed.
use Rattle.std.proofs.Common.{None, Some, map, refl, ap, ap₂}
use Rattle.std.specs.Option.{option_map}
use Rattle.imap_grammar.specs.Text.{lent_text}
use Rattle.imap_grammar.specs.Pieces.{◌then◌, words, space, number_text, literal_text, plain}
use Rattle.imap_grammar.proofs.OneText.{Keeps, each_keeps, list_keeps, ntext_keeps}
use Rattle.imap_shared.specs.GmailTexts.{canonical_label, canonical_label_list}
use Rattle.imap_body_types.specs.declared.shapes.fields.ContentEncoding.TheVariants.{SevenBit, EightBit, Binary, Base64, QuotedPrintable, Other}
use Rattle.imap_body_types.specs.ExtensionValues.{Num, Str, Listed, no_extensions, one_extension}
use Rattle.imap_body_types.specs.BodyValues.{Basic, TextBody, Message, Multipart, no_bodies, one_body}
use Rattle.imap_body_types.specs.Lent.{lent_address, lent_addresses, lent_envelope, lent_pair, lent_params, lent_encoding, lent_fields, lent_disposition, lent_languages, lent_extension, lent_extensions, lent_last, lent_ext_1part, lent_ext_mpart, lent_body, lent_bodies}
use Rattle.imap_envelopes.specs.EnvelopeTexts.{canonical_address, canonical_addresses, canonical_envelope}
use Rattle.imap_bodystructure.specs.FieldTexts.{canonical_pair, canonical_params, canonical_encoding, canonical_fields}
use Rattle.imap_bodystructure.specs.ExtensionTexts.{canonical_disposition, canonical_languages, canonical_extension, canonical_members, canonical_further, canonical_last, canonical_ext_1part, canonical_ext_mpart}
use Rattle.imap_bodystructure.specs.BodyTexts.{fields_in, ext_1part_in, ext_mpart_in, in_brackets, canonical_inside, canonical_each, canonical_body}
use Rattle.imap_sections.specs.SectionTexts.{canonical_section}
use Rattle.imap_body.specs.AttributeValues as said
use Rattle.imap_body.specs.Changed.{lent_attribute}
use Rattle.imap_body.specs.AttributeTexts.{canonical_origin, canonical_nid, canonical_attribute, canonical_attributes}

-- ---- envelopes

pub address : Keeps lent_address canonical_address
address a = rw (ntext_keeps a.name, ntext_keeps a.adl, ntext_keeps a.mailbox, ntext_keeps a.host) refl

pub addresses : Keeps lent_addresses canonical_addresses
addresses None = refl
addresses (Some list) = ap (λ x. words "(" then x then words ")") (each_keeps lent_address canonical_address address list)

pub envelope : Keeps lent_envelope canonical_envelope
envelope e =
    rw (ntext_keeps e.date, ntext_keeps e.subject, addresses e.from, addresses e.sender, addresses e.reply_to, addresses e.to, addresses e.cc, addresses e.bcc, ntext_keeps e.in_reply_to, ntext_keeps e.message_id) refl

-- ---- fields

pub params : Keeps lent_params canonical_params
params None = refl
params (Some pairs) = list_keeps lent_pair canonical_pair (λ p. refl) pairs

pub encoding : Keeps lent_encoding canonical_encoding
encoding SevenBit = refl
encoding EightBit = refl
encoding Binary = refl
encoding Base64 = refl
encoding QuotedPrintable = refl
encoding (Other t) = refl

pub fields : Keeps lent_fields canonical_fields
fields f = rw (params f.param, ntext_keeps f.id, ntext_keeps f.description, encoding f.transfer_encoding) refl

-- ---- extension data

pub disposition : Keeps (option_map lent_disposition) canonical_disposition
disposition None = refl
disposition (Some d) = ap (λ x. words "(" then literal_text d.ty then space then x then words ")") (params d.params)

pub languages : Keeps lent_languages canonical_languages
languages None = refl
languages (Some ts) = list_keeps lent_text literal_text (λ t. refl) ts

mutual
  pub extension : Keeps lent_extension canonical_extension
  extension (Num n) = refl
  extension (Str t) = ntext_keeps t
  extension (Listed es) = ap (λ x. words "(" then x then words ")") (members es)

  members : Keeps lent_extensions canonical_members
  members no_extensions = refl
  members (one_extension e es) = ap₂ (λ x y. x then y) (extension e) (further es)

  further : Keeps lent_extensions canonical_further
  further no_extensions = refl
  further (one_extension e es) = ap₂ (λ x y. space then x then y) (extension e) (further es)

last : Keeps lent_last canonical_last
last None = refl
last (Some e) = ap (λ x. space then x) (extension e)

pub ext_1part : Keeps lent_ext_1part canonical_ext_1part
ext_1part e = rw (ntext_keeps e.md5, disposition e.disposition, languages e.language, ntext_keeps e.location, last e.extension) refl

pub ext_mpart : Keeps lent_ext_mpart canonical_ext_mpart
ext_mpart e = rw (params e.param, disposition e.disposition, languages e.language, ntext_keeps e.location, last e.extension) refl

-- ---- structures of bodies

mutual
  inside : Keeps lent_body canonical_inside
  inside (Basic c s e) = ap₂ (λ x y. literal_text c.ty.ty then space then literal_text c.ty.subtype then space then x then y) (fields (fields_in c s)) (ext_1part (ext_1part_in c s e))
  inside (TextBody c s n e) = ap₂ (λ x y. words "\"TEXT\"" then space then literal_text c.ty.subtype then space then x then space then number_text n then y) (fields (fields_in c s)) (ext_1part (ext_1part_in c s e))
  inside (Message c s v b n e) = λ i.
      words "\"MESSAGE\" \"RFC822\"" then space then fields (fields_in c s) i then space then envelope v i then space then in_brackets (inside b i) then space then number_text n then ext_1part (ext_1part_in c s e) i
  inside (Multipart c bs e) = ap₂ (λ x y. x then space then literal_text c.ty.subtype then y) (each_body bs) (ext_mpart (ext_mpart_in c e))

  each_body : Keeps lent_bodies canonical_each
  each_body no_bodies = refl
  each_body (one_body b bs) = ap₂ (λ x y. in_brackets x then y) (inside b) (each_body bs)

pub body : Keeps lent_body canonical_body
body b = ap in_brackets (inside b)

-- ---- attributes

labels : Keeps (map lent_text) canonical_label_list
labels ts = ap (λ x. words "X-GM-LABELS " then x) (list_keeps lent_text canonical_label (λ t. refl) ts)

nid : Keeps (option_map lent_text) canonical_nid
nid None = refl
nid (Some t) = refl

pub attribute : Keeps lent_attribute canonical_attribute
attribute (said.BodySection path origin contents) = ap (λ x. words "BODY" then canonical_section path then canonical_origin origin then space then x) (ntext_keeps contents)
attribute (said.BodyStructure b) = ap (λ x. words "BODYSTRUCTURE " then x) (body b)
attribute (said.Envelope e) = ap (λ x. words "ENVELOPE " then x) (envelope e)
attribute (said.Flags fs) = ap (λ x. words "FLAGS " then x) (list_keeps lent_text plain (λ t. refl) fs)
attribute (said.InternalDate t) = refl
attribute (said.ModSeq n) = refl
attribute (said.Rfc822 t) = ap (λ x. words "RFC822 " then x) (ntext_keeps t)
attribute (said.Rfc822Header t) = ap (λ x. words "RFC822.HEADER " then x) (ntext_keeps t)
attribute (said.Rfc822Size n) = refl
attribute (said.Rfc822Text t) = ap (λ x. words "RFC822.TEXT " then x) (ntext_keeps t)
attribute (said.Uid n) = refl
attribute (said.GmailLabels ts) = labels ts
attribute (said.GmailMsgId n) = refl
attribute (said.GmailThrId n) = refl
attribute (said.EmailId t) = refl
attribute (said.ThreadId t) = ap (λ x. words "THREADID " then x) (nid t)
attribute (said.SaveDate t) = ap (λ x. words "SAVEDATE " then x) (ntext_keeps t)
attribute said.Unknown = refl

pub attributes : Keeps (map lent_attribute) canonical_attributes
attributes = list_keeps lent_attribute canonical_attribute attribute
