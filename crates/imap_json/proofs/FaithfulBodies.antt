-- Envelopes, and structures of bodies.
use Rattle.std.proofs.Common.{◌≡◌, ℕ, [], ◌∷◌, refl, sym, ap, codes}
use Rattle.std.specs.Option.{option_map}
use Rattle.serde_json.specs.Data.{Data, array, item}
use Rattle.imap_grammar.proofs.Seen.{unequal}
use Rattle.imap_body_types.specs.declared.shapes.fields.ContentEncoding.TheVariants as encoding
use Rattle.imap_body_types.specs.EnvelopeValues.{AddressValue}
use Rattle.imap_body_types.specs.FieldValues.{EncodingValue}
use Rattle.imap_body_types.specs.ExtensionValues.{ExtensionValue, Num, Str, Listed, Extensions, no_extensions, one_extension}
use Rattle.imap_body_types.specs.BodyValues.{BodyValue, Basic, TextBody, Message, Multipart, Bodies, no_bodies, one_body}
use Rattle.imap_body_types.specs.Lent.{lent_ntext, lent_address, lent_addresses, lent_envelope, lent_params, lent_encoding, lent_disposition, lent_languages, lent_extension, lent_extensions, lent_last, lent_type, lent_common, lent_single, lent_body, lent_bodies}
use Rattle.imap_json.specs.Forms.{option_json, number_json, object_json, variant_json}
use Rattle.imap_json.specs.Texts.{text_json}
use Rattle.imap_json.specs.Envelopes.{nbytes_json, address_json, addresses_json, envelope_json}
use Rattle.imap_json.specs.Fields.{params_json, encoding_json}
use Rattle.imap_json.specs.Extensions.{disposition_json, languages_json, extension_json, extension_items, last_json}
use Rattle.imap_json.specs.Bodies.{type_json, common_json, single_json, body_json, body_items}
use Rattle.imap_json.specs.Laws.{IsFaithful}
use Rattle.imap_json.proofs.Faithful.{names_apart, inner, part, items_in, first_item, later_items, has_item, numbers, lists, options, pairs, IsSolid}
use Rattle.imap_json.proofs.FaithfulTexts.{texts, ntexts, byte_strings, bytes_solid}

-- ---- envelopes

pub nbytes : IsFaithful nbytes_json lent_ntext
nbytes = options byte_strings bytes_solid

addresses_alike : (a : AddressValue) → address_json (lent_address a) ≡ address_json a
addresses_alike a =
    let p = nbytes.alike a.name in
    let q = nbytes.alike a.adl in
    let r = nbytes.alike a.mailbox in
    let s = nbytes.alike a.host in
    λ i. object_json ((codes "name", p i) ∷ (codes "adl", q i) ∷ (codes "mailbox", r i) ∷ (codes "host", s i) ∷ [])

address : IsFaithful address_json lent_address
address = record {
  apart = λ a b h.
      let p = nbytes.apart a.name b.name (ap (part 0) h) in
      let q = nbytes.apart a.adl b.adl (ap (part 1) h) in
      let r = nbytes.apart a.mailbox b.mailbox (ap (part 2) h) in
      let s = nbytes.apart a.host b.host (ap (part 3) h) in
      λ i. record { name = p i; adl = q i; mailbox = r i; host = s i };
  alike = addresses_alike;
}

addresses : IsFaithful addresses_json lent_addresses
addresses = options (lists address) (λ a. refl)

pub envelopes : IsFaithful envelope_json lent_envelope
envelopes = record {
  apart = λ a b h.
      let p0 = nbytes.apart a.date b.date (ap (part 0) h) in
      let p1 = nbytes.apart a.subject b.subject (ap (part 1) h) in
      let p2 = addresses.apart a.from b.from (ap (part 2) h) in
      let p3 = addresses.apart a.sender b.sender (ap (part 3) h) in
      let p4 = addresses.apart a.reply_to b.reply_to (ap (part 4) h) in
      let p5 = addresses.apart a.to b.to (ap (part 5) h) in
      let p6 = addresses.apart a.cc b.cc (ap (part 6) h) in
      let p7 = addresses.apart a.bcc b.bcc (ap (part 7) h) in
      let p8 = nbytes.apart a.in_reply_to b.in_reply_to (ap (part 8) h) in
      let p9 = nbytes.apart a.message_id b.message_id (ap (part 9) h) in
      λ i. record { date = p0 i; subject = p1 i; from = p2 i; sender = p3 i; reply_to = p4 i; to = p5 i; cc = p6 i; bcc = p7 i; in_reply_to = p8 i; message_id = p9 i };
  alike = λ e.
      let p0 = nbytes.alike e.date in
      let p1 = nbytes.alike e.subject in
      let p2 = addresses.alike e.from in
      let p3 = addresses.alike e.sender in
      let p4 = addresses.alike e.reply_to in
      let p5 = addresses.alike e.to in
      let p6 = addresses.alike e.cc in
      let p7 = addresses.alike e.bcc in
      let p8 = nbytes.alike e.in_reply_to in
      let p9 = nbytes.alike e.message_id in
      λ i. object_json
      ((codes "date", p0 i) ∷ (codes "subject", p1 i) ∷ (codes "from", p2 i) ∷ (codes "sender", p3 i) ∷ (codes "reply_to", p4 i)
      ∷ (codes "to", p5 i) ∷ (codes "cc", p6 i) ∷ (codes "bcc", p7 i) ∷ (codes "in_reply_to", p8 i) ∷ (codes "message_id", p9 i) ∷ []);
}

-- ---- fields

params : IsFaithful params_json lent_params
params = options (lists (pairs texts texts)) (λ ps. refl)

encodings_apart : (a b : EncodingValue) → encoding_json a ≡ encoding_json b → lent_encoding a ≡ lent_encoding b
encodings_apart encoding.SevenBit encoding.SevenBit h = refl
encodings_apart encoding.EightBit encoding.EightBit h = refl
encodings_apart encoding.Binary encoding.Binary h = refl
encodings_apart encoding.Base64 encoding.Base64 h = refl
encodings_apart encoding.QuotedPrintable encoding.QuotedPrintable h = refl
encodings_apart (encoding.Other s) (encoding.Other t) h = ap encoding.Other (texts.apart s t (ap inner h))
encodings_apart a b h = absurd (names_apart _ _ refl h)

encodings_alike : (a : EncodingValue) → encoding_json (lent_encoding a) ≡ encoding_json a
encodings_alike encoding.SevenBit = refl
encodings_alike encoding.EightBit = refl
encodings_alike encoding.Binary = refl
encodings_alike encoding.Base64 = refl
encodings_alike encoding.QuotedPrintable = refl
encodings_alike (encoding.Other t) = refl

-- ---- extension data

disposition : IsFaithful disposition_json lent_disposition
disposition = record {
  apart = λ a b h.
      let p = texts.apart a.ty b.ty (ap (part 0) h) in
      let q = params.apart a.params b.params (ap (part 1) h) in
      λ i. record { ty = p i; params = q i };
  alike = λ a. let q = params.alike a.params in λ i. object_json ((codes "ty", text_json a.ty) ∷ (codes "params", q i) ∷ []);
}

dispositions : IsFaithful (option_json disposition_json) (option_map lent_disposition)
dispositions = options disposition (λ d. refl)

languages : IsFaithful languages_json lent_languages
languages = options (lists texts) (λ ts. refl)

mutual
  extension_apart : (a b : ExtensionValue) → extension_json a ≡ extension_json b → lent_extension a ≡ lent_extension b
  extension_apart (Num n) (Num m) h = ap Num (numbers.apart n m (ap inner h))
  extension_apart (Str s) (Str t) h = ap Str (ntexts.apart s t (ap inner h))
  extension_apart (Listed es) (Listed fs) h = ap Listed (extensions_apart es fs (ap (λ d. items_in (inner d)) h))
  extension_apart a b h = absurd (names_apart _ _ refl h)

  extensions_apart : (a b : Extensions) → extension_items a ≡ extension_items b → lent_extensions a ≡ lent_extensions b
  extensions_apart no_extensions no_extensions h = refl
  extensions_apart no_extensions (one_extension f fs) h = absurd (unequal (ap has_item h))
  extensions_apart (one_extension e es) no_extensions h = absurd (unequal (sym (ap has_item h)))
  extensions_apart (one_extension e es) (one_extension f fs) h =
      let p = extension_apart e f (ap first_item h) in
      let q = extensions_apart es fs (ap later_items h) in
      λ i. one_extension (p i) (q i)

mutual
  extension_alike : (a : ExtensionValue) → extension_json (lent_extension a) ≡ extension_json a
  extension_alike (Num n) = refl
  extension_alike (Str t) = ap (variant_json (codes "Str")) (ntexts.alike t)
  extension_alike (Listed es) = ap (λ ds. variant_json (codes "List") (array ds)) (extensions_alike es)

  extensions_alike : (a : Extensions) → extension_items (lent_extensions a) ≡ extension_items a
  extensions_alike no_extensions = refl
  extensions_alike (one_extension e es) = let p = extension_alike e in let q = extensions_alike es in λ i. item (p i) (q i)

extension_solid : IsSolid extension_json
extension_solid (Num n) = refl
extension_solid (Str t) = refl
extension_solid (Listed es) = refl

lasts : IsFaithful last_json lent_last
lasts = options (record { apart = extension_apart; alike = extension_alike }) extension_solid

-- ---- structures of bodies

content_type : IsFaithful type_json lent_type
content_type = record {
  apart = λ a b h.
      let p = texts.apart a.ty b.ty (ap (part 0) h) in
      let q = texts.apart a.subtype b.subtype (ap (part 1) h) in
      let r = params.apart a.params b.params (ap (part 2) h) in
      λ i. record { ty = p i; subtype = q i; params = r i };
  alike = λ a.
      let r = params.alike a.params in
      λ i. object_json ((codes "ty", text_json a.ty) ∷ (codes "subtype", text_json a.subtype) ∷ (codes "params", r i) ∷ []);
}

commons : IsFaithful common_json lent_common
commons = record {
  apart = λ a b h.
      let p = content_type.apart a.ty b.ty (ap (part 0) h) in
      let q = dispositions.apart a.disposition b.disposition (ap (part 1) h) in
      let r = languages.apart a.language b.language (ap (part 2) h) in
      let s = ntexts.apart a.location b.location (ap (part 3) h) in
      λ i. record { ty = p i; disposition = q i; language = r i; location = s i };
  alike = λ a.
      let p = content_type.alike a.ty in
      let q = dispositions.alike a.disposition in
      let r = languages.alike a.language in
      let s = ntexts.alike a.location in
      λ i. object_json ((codes "ty", p i) ∷ (codes "disposition", q i) ∷ (codes "language", r i) ∷ (codes "location", s i) ∷ []);
}

singles : IsFaithful single_json lent_single
singles = record {
  apart = λ a b h.
      let p = ntexts.apart a.id b.id (ap (part 0) h) in
      let q = ntexts.apart a.md5 b.md5 (ap (part 1) h) in
      let r = ntexts.apart a.description b.description (ap (part 2) h) in
      let s = encodings_apart a.transfer_encoding b.transfer_encoding (ap (part 3) h) in
      let t = numbers.apart a.octets b.octets (ap (part 4) h) in
      λ i. record { id = p i; md5 = q i; description = r i; transfer_encoding = s i; octets = t i };
  alike = λ a.
      let p = ntexts.alike a.id in
      let q = ntexts.alike a.md5 in
      let r = ntexts.alike a.description in
      let s = encodings_alike a.transfer_encoding in
      λ i. object_json ((codes "id", p i) ∷ (codes "md5", q i) ∷ (codes "description", r i) ∷ (codes "transfer_encoding", s i) ∷ (codes "octets", number_json a.octets) ∷ []);
}

abbrev within : ℕ → Data → Data
within n d = part n (inner d)

mutual
  body_apart : (a b : BodyValue) → body_json a ≡ body_json b → lent_body a ≡ lent_body b
  body_apart (Basic c s l) (Basic d t m) h =
      let p = commons.apart c d (ap (within 0) h) in
      let q = singles.apart s t (ap (within 1) h) in
      let r = lasts.apart l m (ap (within 2) h) in
      λ i. Basic (p i) (q i) (r i)
  body_apart (TextBody c s x l) (TextBody d t y m) h =
      let p = commons.apart c d (ap (within 0) h) in
      let q = singles.apart s t (ap (within 1) h) in
      let n = numbers.apart x y (ap (within 2) h) in
      let r = lasts.apart l m (ap (within 3) h) in
      λ i. TextBody (p i) (q i) (n i) (r i)
  body_apart (Message c s e b x l) (Message d t f k y m) h =
      let p = commons.apart c d (ap (within 0) h) in
      let q = singles.apart s t (ap (within 1) h) in
      let o = envelopes.apart e f (ap (within 2) h) in
      let u = body_apart b k (ap (within 3) h) in
      let n = numbers.apart x y (ap (within 4) h) in
      let r = lasts.apart l m (ap (within 5) h) in
      λ i. Message (p i) (q i) (o i) (u i) (n i) (r i)
  body_apart (Multipart c bs l) (Multipart d ks m) h =
      let p = commons.apart c d (ap (within 0) h) in
      let u = bodies_apart bs ks (ap (λ d. items_in (within 1 d)) h) in
      let r = lasts.apart l m (ap (within 2) h) in
      λ i. Multipart (p i) (u i) (r i)
  body_apart a b h = absurd (names_apart _ _ refl h)

  bodies_apart : (a b : Bodies) → body_items a ≡ body_items b → lent_bodies a ≡ lent_bodies b
  bodies_apart no_bodies no_bodies h = refl
  bodies_apart no_bodies (one_body k ks) h = absurd (unequal (ap has_item h))
  bodies_apart (one_body b bs) no_bodies h = absurd (unequal (sym (ap has_item h)))
  bodies_apart (one_body b bs) (one_body k ks) h =
      let p = body_apart b k (ap first_item h) in
      let q = bodies_apart bs ks (ap later_items h) in
      λ i. one_body (p i) (q i)

mutual
  body_alike : (a : BodyValue) → body_json (lent_body a) ≡ body_json a
  body_alike (Basic c s l) =
      let p = commons.alike c in
      let q = singles.alike s in
      let r = lasts.alike l in
      λ i. variant_json (codes "Basic") (object_json ((codes "common", p i) ∷ (codes "other", q i) ∷ (codes "extension", r i) ∷ []))
  body_alike (TextBody c s x l) =
      let p = commons.alike c in
      let q = singles.alike s in
      let r = lasts.alike l in
      λ i. variant_json (codes "Text") (object_json ((codes "common", p i) ∷ (codes "other", q i) ∷ (codes "lines", number_json x) ∷ (codes "extension", r i) ∷ []))
  body_alike (Message c s e b x l) =
      let p = commons.alike c in
      let q = singles.alike s in
      let o = envelopes.alike e in
      let u = body_alike b in
      let r = lasts.alike l in
      λ i. variant_json (codes "Message")
      (object_json ((codes "common", p i) ∷ (codes "other", q i) ∷ (codes "envelope", o i) ∷ (codes "body", u i) ∷ (codes "lines", number_json x) ∷ (codes "extension", r i) ∷ []))
  body_alike (Multipart c bs l) =
      let p = commons.alike c in
      let u = bodies_alike bs in
      let r = lasts.alike l in
      λ i. variant_json (codes "Multipart") (object_json ((codes "common", p i) ∷ (codes "bodies", array (u i)) ∷ (codes "extension", r i) ∷ []))

  bodies_alike : (a : Bodies) → body_items (lent_bodies a) ≡ body_items a
  bodies_alike no_bodies = refl
  bodies_alike (one_body b bs) = let p = body_alike b in let q = bodies_alike bs in λ i. item (p i) (q i)

pub bodies : IsFaithful body_json lent_body
bodies = record { apart = body_apart; alike = body_alike }
