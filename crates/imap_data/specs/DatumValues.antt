-- The values of mailbox data: texts by their bytes, and whether they are borrowed.
use Rattle.std.specs.Prelude.{ℕ, List, map}
use Rattle.imap_grammar.specs.Text.{Text, text_of, lent_text}
use Rattle.imap_data.specs.AnnotationValues.{MetadataValue, metadata_value}
use Rattle.imap_data.specs.Names.{ListValue, list_value, changed_list}
use Rattle.imap_data.specs.declared.types.counts.StatusAttribute.{StatusAttribute}
use Rattle.imap_data.specs.declared.types.mailbox_data.MailboxDatum.{MailboxDatum}
use Rattle.imap_data.specs.declared.types.mailbox_data.MailboxDatum.TheVariants as datum

pub data DatumValue : Type 0 where
  Exists : ℕ → DatumValue
  Flags : List Text → DatumValue
  Listed : ListValue → DatumValue
  Search : List ℕ → DatumValue
  Sort : List ℕ → DatumValue
  Status : Text → List StatusAttribute → DatumValue
  Recent : ℕ → DatumValue
  MetadataSolicited : Text → List MetadataValue → DatumValue
  MetadataUnsolicited : Text → List Text → DatumValue
  GmailLabels : List Text → DatumValue
  GmailMsgId : ℕ → DatumValue
  GmailThrId : ℕ → DatumValue

-- ---- of the code's values

abbrev pub datum_value : MailboxDatum → DatumValue
datum_value (datum.Exists n) = Exists n
datum_value (datum.Flags flags) = Flags (map text_of flags.items)
datum_value (datum.List l) = Listed (list_value l)
datum_value (datum.Search ns) = Search ns.items
datum_value (datum.Sort ns) = Sort ns.items
datum_value (datum.Status mailbox items) = Status (text_of mailbox) items.items
datum_value (datum.Recent n) = Recent n
datum_value (datum.MetadataSolicited mailbox values) =
    MetadataSolicited (text_of mailbox) (map metadata_value values.items)
datum_value (datum.MetadataUnsolicited mailbox values) =
    MetadataUnsolicited (text_of mailbox) (map text_of values.items)
datum_value (datum.GmailLabels labels) = GmailLabels (map text_of labels.items)
datum_value (datum.GmailMsgId n) = GmailMsgId n
datum_value (datum.GmailThrId n) = GmailThrId n

-- a number alone
abbrev pub IsNumber : DatumValue → Type 0
IsNumber (Exists n) = Unit {0}
IsNumber (Recent n) = Unit {0}
IsNumber (GmailMsgId n) = Unit {0}
IsNumber (GmailThrId n) = Unit {0}
IsNumber other = ⊥

-- ---- with each text changed by h, but those of an annotation, which are owned always

abbrev pub changed_datum : (Text → Text) → DatumValue → DatumValue
changed_datum h (Flags flags) = Flags (map h flags)
changed_datum h (Listed l) = Listed (changed_list h l)
changed_datum h (Status mailbox items) = Status (h mailbox) items
changed_datum h (MetadataSolicited mailbox values) = MetadataSolicited (h mailbox) values
changed_datum h (MetadataUnsolicited mailbox values) =
    MetadataUnsolicited (h mailbox) (map h values)
changed_datum h (GmailLabels labels) = GmailLabels (map h labels)
changed_datum h other = other

-- ---- with all texts borrowed: two values say the same where these are equal

abbrev pub lent_datum : DatumValue → DatumValue
lent_datum = changed_datum lent_text

-- ---- what `==` tells of the code's values

abbrev pub datum_content : MailboxDatum → DatumValue
datum_content d = lent_datum (datum_value d)
