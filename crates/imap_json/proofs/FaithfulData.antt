-- Response codes, and data of a mailbox.
use Rattle.std.proofs.Common.{◌≡◌, [], ◌∷◌, refl, ap, map, codes}
use Rattle.std.specs.Option.{option_map}
use Rattle.imap_grammar.specs.Text.{lent_text}
use Rattle.imap_data.specs.Codes.{CodeValue, lent_code}
use Rattle.imap_data.specs.Codes as code
use Rattle.imap_data.specs.Names.{NameAttributeValue, lent_name_attribute, lent_list}
use Rattle.imap_data.specs.Names as name
use Rattle.imap_data.specs.DatumValues.{DatumValue, lent_datum}
use Rattle.imap_data.specs.DatumValues as datum
use Rattle.imap_data.specs.declared.types.counts.StatusAttribute.{StatusAttribute}
use Rattle.imap_data.specs.declared.types.counts.StatusAttribute.TheVariants as count
use Rattle.imap_json.specs.Forms.{option_json, list_json, object_json, variant_json}
use Rattle.imap_json.specs.Texts.{text_json}
use Rattle.imap_json.specs.Codes.{code_json}
use Rattle.imap_json.specs.Names.{name_attribute_json, list_data_json}
use Rattle.imap_json.specs.Counts.{status_item_json}
use Rattle.imap_json.specs.Annotations.{metadata_json}
use Rattle.imap_json.specs.MailboxData.{datum_json}
use Rattle.imap_json.specs.Laws.{IsFaithful}
use Rattle.imap_json.proofs.Faithful.{names_apart, inner, part, first_item, later_items, items_in, numbers, strings, lists, options, plain_lists, plain_options, IsSolid}
use Rattle.imap_json.proofs.FaithfulTexts.{texts, ntexts}
use Rattle.imap_json.proofs.FaithfulItems.{capabilities, uid_sets}

-- ---- codes

charsets : IsFaithful (option_json (list_json text_json)) (option_map (map lent_text))
charsets = options (lists texts) (λ ts. refl)

codes_apart : (a b : CodeValue) → code_json a ≡ code_json b → lent_code a ≡ lent_code b
codes_apart code.Alert code.Alert h = refl
codes_apart (code.BadCharset c) (code.BadCharset d) h = ap code.BadCharset (charsets.apart c d (ap inner h))
codes_apart (code.Capabilities c) (code.Capabilities d) h = ap code.Capabilities ((lists capabilities).apart c d (ap inner h))
codes_apart (code.HighestModSeq n) (code.HighestModSeq m) h = ap code.HighestModSeq (numbers.apart n m (ap inner h))
codes_apart code.Parse code.Parse h = refl
codes_apart (code.PermanentFlags c) (code.PermanentFlags d) h = ap code.PermanentFlags ((lists texts).apart c d (ap inner h))
codes_apart code.ReadOnly code.ReadOnly h = refl
codes_apart code.ReadWrite code.ReadWrite h = refl
codes_apart code.TryCreate code.TryCreate h = refl
codes_apart (code.UidNext n) (code.UidNext m) h = ap code.UidNext (numbers.apart n m (ap inner h))
codes_apart (code.UidValidity n) (code.UidValidity m) h = ap code.UidValidity (numbers.apart n m (ap inner h))
codes_apart (code.Unseen n) (code.Unseen m) h = ap code.Unseen (numbers.apart n m (ap inner h))
codes_apart (code.AppendUid n u) (code.AppendUid m v) h =
    let p = numbers.apart n m (ap (λ d. first_item (items_in (inner d))) h) in
    let q = uid_sets.apart u v (ap (λ d. first_item (later_items (items_in (inner d)))) h) in
    λ i. code.AppendUid (p i) (q i)
codes_apart (code.CopyUid n u s) (code.CopyUid m v t) h =
    let p = numbers.apart n m (ap (λ d. first_item (items_in (inner d))) h) in
    let q = uid_sets.apart u v (ap (λ d. first_item (later_items (items_in (inner d)))) h) in
    let r = uid_sets.apart s t (ap (λ d. first_item (later_items (later_items (items_in (inner d))))) h) in
    λ i. code.CopyUid (p i) (q i) (r i)
codes_apart code.UidNotSticky code.UidNotSticky h = refl
codes_apart (code.MetadataLongEntries n) (code.MetadataLongEntries m) h = ap code.MetadataLongEntries (numbers.apart n m (ap inner h))
codes_apart (code.MetadataMaxSize n) (code.MetadataMaxSize m) h = ap code.MetadataMaxSize (numbers.apart n m (ap inner h))
codes_apart code.MetadataTooMany code.MetadataTooMany h = refl
codes_apart code.MetadataNoPrivate code.MetadataNoPrivate h = refl
codes_apart a b h = absurd (names_apart _ _ refl h)

codes_alike : (a : CodeValue) → code_json (lent_code a) ≡ code_json a
codes_alike (code.BadCharset c) = ap (variant_json (codes "BadCharset")) (charsets.alike c)
codes_alike (code.Capabilities c) = ap (variant_json (codes "Capabilities")) ((lists capabilities).alike c)
codes_alike (code.PermanentFlags c) = ap (variant_json (codes "PermanentFlags")) ((lists texts).alike c)
codes_alike other = refl

codes_solid : IsSolid code_json
codes_solid code.Alert = refl
codes_solid code.Parse = refl
codes_solid code.ReadOnly = refl
codes_solid code.ReadWrite = refl
codes_solid code.TryCreate = refl
codes_solid code.UidNotSticky = refl
codes_solid code.MetadataTooMany = refl
codes_solid code.MetadataNoPrivate = refl
codes_solid other = refl

pub response_codes : IsFaithful (option_json code_json) (option_map lent_code)
response_codes = options (record { apart = codes_apart; alike = codes_alike }) codes_solid

-- ---- the data of LIST

attributes_apart : (a b : NameAttributeValue) → name_attribute_json a ≡ name_attribute_json b → lent_name_attribute a ≡ lent_name_attribute b
attributes_apart name.NoInferiors name.NoInferiors h = refl
attributes_apart name.NoSelect name.NoSelect h = refl
attributes_apart name.Marked name.Marked h = refl
attributes_apart name.Unmarked name.Unmarked h = refl
attributes_apart name.All name.All h = refl
attributes_apart name.Archive name.Archive h = refl
attributes_apart name.Drafts name.Drafts h = refl
attributes_apart name.Flagged name.Flagged h = refl
attributes_apart name.Junk name.Junk h = refl
attributes_apart name.Sent name.Sent h = refl
attributes_apart name.Trash name.Trash h = refl
attributes_apart (name.Extension s) (name.Extension t) h = ap name.Extension (texts.apart s t (ap inner h))
attributes_apart a b h = absurd (names_apart _ _ refl h)

attributes_alike : (a : NameAttributeValue) → name_attribute_json (lent_name_attribute a) ≡ name_attribute_json a
attributes_alike (name.Extension t) = refl
attributes_alike other = refl

attributes : IsFaithful name_attribute_json lent_name_attribute
attributes = record { apart = attributes_apart; alike = attributes_alike }

list_data : IsFaithful list_data_json lent_list
list_data = record {
  apart = λ a b h.
      let p = (lists attributes).apart a.name_attributes b.name_attributes (ap (part 0) h) in
      let q = ntexts.apart a.delimiter b.delimiter (ap (part 1) h) in
      let r = texts.apart a.name b.name (ap (part 2) h) in
      λ i. record { name_attributes = p i; delimiter = q i; name = r i };
  alike = λ l.
      let p = (lists attributes).alike l.name_attributes in
      let q = ntexts.alike l.delimiter in
      λ i. object_json ((codes "name_attributes", p i) ∷ (codes "delimiter", q i) ∷ (codes "name", text_json l.name) ∷ []);
}

-- ---- items of STATUS, and annotations

counts_apart : (a b : StatusAttribute) → status_item_json a ≡ status_item_json b → a ≡ b
counts_apart (count.HighestModSeq n) (count.HighestModSeq m) h = ap count.HighestModSeq (numbers.apart n m (ap inner h))
counts_apart (count.Messages n) (count.Messages m) h = ap count.Messages (numbers.apart n m (ap inner h))
counts_apart (count.Recent n) (count.Recent m) h = ap count.Recent (numbers.apart n m (ap inner h))
counts_apart (count.UidNext n) (count.UidNext m) h = ap count.UidNext (numbers.apart n m (ap inner h))
counts_apart (count.UidValidity n) (count.UidValidity m) h = ap count.UidValidity (numbers.apart n m (ap inner h))
counts_apart (count.Unseen n) (count.Unseen m) h = ap count.Unseen (numbers.apart n m (ap inner h))
counts_apart a b h = absurd (names_apart _ _ refl h)

counts : IsFaithful (list_json status_item_json) (λ cs. cs)
counts = plain_lists (record { apart = counts_apart; alike = λ c. refl })

annotation : IsFaithful metadata_json (λ m. m)
annotation = record {
  apart = λ a b h.
      let p = strings.apart a.entry b.entry (ap (part 0) h) in
      let q = (plain_options strings (λ s. refl)).apart a.value b.value (ap (part 1) h) in
      λ i. record { entry = p i; value = q i };
  alike = λ m. refl;
}

annotations : IsFaithful (list_json metadata_json) (λ ms. ms)
annotations = plain_lists annotation

-- ---- any data of a mailbox

data_apart : (a b : DatumValue) → datum_json a ≡ datum_json b → lent_datum a ≡ lent_datum b
data_apart (datum.Exists n) (datum.Exists m) h = ap datum.Exists (numbers.apart n m (ap inner h))
data_apart (datum.Flags s) (datum.Flags t) h = ap datum.Flags ((lists texts).apart s t (ap inner h))
data_apart (datum.Listed l) (datum.Listed k) h = ap datum.Listed (list_data.apart l k (ap inner h))
data_apart (datum.Search s) (datum.Search t) h = ap datum.Search ((plain_lists numbers).apart s t (ap inner h))
data_apart (datum.Sort s) (datum.Sort t) h = ap datum.Sort ((plain_lists numbers).apart s t (ap inner h))
data_apart (datum.Status m s) (datum.Status n t) h =
    let p = texts.apart m n (ap (λ d. part 0 (inner d)) h) in
    let q = counts.apart s t (ap (λ d. part 1 (inner d)) h) in
    λ i. datum.Status (p i) (q i)
data_apart (datum.Recent n) (datum.Recent m) h = ap datum.Recent (numbers.apart n m (ap inner h))
data_apart (datum.MetadataSolicited m s) (datum.MetadataSolicited n t) h =
    let p = texts.apart m n (ap (λ d. part 0 (inner d)) h) in
    let q = annotations.apart s t (ap (λ d. part 1 (inner d)) h) in
    λ i. datum.MetadataSolicited (p i) (q i)
data_apart (datum.MetadataUnsolicited m s) (datum.MetadataUnsolicited n t) h =
    let p = texts.apart m n (ap (λ d. part 0 (inner d)) h) in
    let q = (lists texts).apart s t (ap (λ d. part 1 (inner d)) h) in
    λ i. datum.MetadataUnsolicited (p i) (q i)
data_apart (datum.GmailLabels s) (datum.GmailLabels t) h = ap datum.GmailLabels ((lists texts).apart s t (ap inner h))
data_apart (datum.GmailMsgId n) (datum.GmailMsgId m) h = ap datum.GmailMsgId (numbers.apart n m (ap inner h))
data_apart (datum.GmailThrId n) (datum.GmailThrId m) h = ap datum.GmailThrId (numbers.apart n m (ap inner h))
data_apart a b h = absurd (names_apart _ _ refl h)

data_alike : (a : DatumValue) → datum_json (lent_datum a) ≡ datum_json a
data_alike (datum.Flags s) = ap (variant_json (codes "Flags")) ((lists texts).alike s)
data_alike (datum.Listed l) = ap (variant_json (codes "List")) (list_data.alike l)
data_alike (datum.Status m s) = refl
data_alike (datum.MetadataSolicited m s) = refl
data_alike (datum.MetadataUnsolicited m s) =
    let p = (lists texts).alike s in
    λ i. variant_json (codes "MetadataUnsolicited") (object_json ((codes "mailbox", text_json m) ∷ (codes "values", p i) ∷ []))
data_alike (datum.GmailLabels s) = ap (variant_json (codes "GmailLabels")) ((lists texts).alike s)
data_alike other = refl

pub mailbox_data : IsFaithful datum_json lent_datum
mailbox_data = record { apart = data_apart; alike = data_alike }
