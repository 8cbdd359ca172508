-- The same values with each text changed by h.
use Rattle.std.specs.Prelude.{List, Option, map}
use Rattle.std.specs.Option.{option_map}
use Rattle.imap_grammar.specs.Text.{Text}
use Rattle.imap_body_types.specs.declared.shapes.fields.ContentEncoding.TheVariants.{SevenBit, EightBit, Binary, Base64, QuotedPrintable, Other}
use Rattle.imap_body_types.specs.EnvelopeValues.{AddressValue, EnvelopeValue}
use Rattle.imap_body_types.specs.FieldValues.{ParamsValue, EncodingValue, FieldsValue}
use Rattle.imap_body_types.specs.ExtensionValues.{DispositionValue, ExtensionValue, Num, Str, Listed, Extensions, no_extensions, one_extension, Ext1PartValue, ExtMPartValue}
use Rattle.imap_body_types.specs.BodyValues.{TypeValue, CommonValue, SingleValue, BodyValue, Basic, TextBody, Message, Multipart, Bodies, no_bodies, one_body}

-- ---- envelopes

abbrev pub changed_ntext : (Text → Text) → Option Text → Option Text
changed_ntext h = option_map h

abbrev pub changed_address : (Text → Text) → AddressValue → AddressValue
changed_address h a =
    record {
      name = changed_ntext h a.name;
      adl = changed_ntext h a.adl;
      mailbox = changed_ntext h a.mailbox;
      host = changed_ntext h a.host;
    }

abbrev pub changed_addresses :
    (Text → Text) → Option (List AddressValue) → Option (List AddressValue)
changed_addresses h = option_map (map (changed_address h))

abbrev pub changed_envelope : (Text → Text) → EnvelopeValue → EnvelopeValue
changed_envelope h e =
    record {
      date = changed_ntext h e.date;
      subject = changed_ntext h e.subject;
      from = changed_addresses h e.from;
      sender = changed_addresses h e.sender;
      reply_to = changed_addresses h e.reply_to;
      to = changed_addresses h e.to;
      cc = changed_addresses h e.cc;
      bcc = changed_addresses h e.bcc;
      in_reply_to = changed_ntext h e.in_reply_to;
      message_id = changed_ntext h e.message_id;
    }

-- ---- fields

abbrev pub changed_pair : (Text → Text) → Text × Text → Text × Text
changed_pair h p = (h p.0, h p.1)

abbrev pub changed_params : (Text → Text) → ParamsValue → ParamsValue
changed_params h = option_map (map (changed_pair h))

abbrev pub changed_encoding : (Text → Text) → EncodingValue → EncodingValue
changed_encoding h SevenBit = SevenBit
changed_encoding h EightBit = EightBit
changed_encoding h Binary = Binary
changed_encoding h Base64 = Base64
changed_encoding h QuotedPrintable = QuotedPrintable
changed_encoding h (Other name) = Other (h name)

abbrev pub changed_fields : (Text → Text) → FieldsValue → FieldsValue
changed_fields h f =
    record {
      param = changed_params h f.param;
      id = changed_ntext h f.id;
      description = changed_ntext h f.description;
      transfer_encoding = changed_encoding h f.transfer_encoding;
      octets = f.octets;
    }

-- ---- extension data

abbrev pub changed_disposition : (Text → Text) → DispositionValue → DispositionValue
changed_disposition h d = record { ty = h d.ty; params = changed_params h d.params }

abbrev pub changed_languages : (Text → Text) → Option (List Text) → Option (List Text)
changed_languages h = option_map (map h)

abbrev mutual
  pub changed_extension : (Text → Text) → ExtensionValue → ExtensionValue
  changed_extension h (Num n) = Num n
  changed_extension h (Str text) = Str (changed_ntext h text)
  changed_extension h (Listed members) = Listed (changed_extensions h members)

  pub changed_extensions : (Text → Text) → Extensions → Extensions
  changed_extensions h no_extensions = no_extensions
  changed_extensions h (one_extension e es) =
      one_extension (changed_extension h e) (changed_extensions h es)

abbrev pub changed_last : (Text → Text) → Option ExtensionValue → Option ExtensionValue
changed_last h = option_map (changed_extension h)

abbrev pub changed_ext_1part : (Text → Text) → Ext1PartValue → Ext1PartValue
changed_ext_1part h e =
    record {
      md5 = changed_ntext h e.md5;
      disposition = option_map (changed_disposition h) e.disposition;
      language = changed_languages h e.language;
      location = changed_ntext h e.location;
      extension = changed_last h e.extension;
    }

abbrev pub changed_ext_mpart : (Text → Text) → ExtMPartValue → ExtMPartValue
changed_ext_mpart h e =
    record {
      param = changed_params h e.param;
      disposition = option_map (changed_disposition h) e.disposition;
      language = changed_languages h e.language;
      location = changed_ntext h e.location;
      extension = changed_last h e.extension;
    }

-- ---- structures of bodies

abbrev pub changed_type : (Text → Text) → TypeValue → TypeValue
changed_type h t = record { ty = h t.ty; subtype = h t.subtype; params = changed_params h t.params }

abbrev pub changed_common : (Text → Text) → CommonValue → CommonValue
changed_common h c =
    record {
      ty = changed_type h c.ty;
      disposition = option_map (changed_disposition h) c.disposition;
      language = changed_languages h c.language;
      location = changed_ntext h c.location;
    }

abbrev pub changed_single : (Text → Text) → SingleValue → SingleValue
changed_single h s =
    record {
      id = changed_ntext h s.id;
      md5 = changed_ntext h s.md5;
      description = changed_ntext h s.description;
      transfer_encoding = changed_encoding h s.transfer_encoding;
      octets = s.octets;
    }

abbrev mutual
  pub changed_body : (Text → Text) → BodyValue → BodyValue
  changed_body h (Basic common single last) =
      Basic (changed_common h common) (changed_single h single) (changed_last h last)
  changed_body h (TextBody common single lines last) =
      TextBody (changed_common h common) (changed_single h single) lines (changed_last h last)
  changed_body h (Message common single envelope body lines last) =
      Message (changed_common h common) (changed_single h single) (changed_envelope h envelope)
      (changed_body h body) lines (changed_last h last)
  changed_body h (Multipart common bodies last) =
      Multipart (changed_common h common) (changed_bodies h bodies) (changed_last h last)

  pub changed_bodies : (Text → Text) → Bodies → Bodies
  changed_bodies h no_bodies = no_bodies
  changed_bodies h (one_body b bs) = one_body (changed_body h b) (changed_bodies h bs)
