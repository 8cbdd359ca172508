-- What `==` tells of mailbox data.
use Rattle.std.proofs.Common.{rules, ◌≡◌, ℕ, refl, ap, true, map}
use Rattle.std.specs.Cmp.Lexicographic.{pointwise}
use Rattle.std.proofs.lemmas.Bool.{and_parts, and_from}
use Rattle.imap_grammar.specs.Equality.{Tells}
use Rattle.imap_grammar.proofs.Seen.{unequal, kinds_apart, texts_tell, text_tells, numbers_tell, items_tell, text_lists_tell, plain_lists_tell}
use Rattle.imap_data.specs.AnnotationValues.{metadata_value}
use Rattle.imap_data.proofs.Annotations.{metadata_tell}
use Rattle.imap_data.specs.DatumValues.{DatumValue, Exists, Flags, Listed, Search, Sort, Status, Recent, MetadataSolicited, MetadataUnsolicited, GmailLabels, GmailMsgId, GmailThrId, datum_content}
use Rattle.imap_data.specs.declared.types.mailbox_data.MailboxDatum.{MailboxDatum}
use Rattle.imap_data.specs.declared.types.mailbox_data.MailboxDatum.TheVariants as datum
use Rattle.imap_data.specs.contracts.types.counts.StatusAttributePartialEq.TheImpl as item_eq
use Rattle.imap_data.specs.contracts.types.annotations.MetadataPartialEq.TheImpl as metadata_eq
use Rattle.imap_data.specs.contracts.types.mailbox_data.MailboxDatumPartialEq.TheImpl as datum_eq
use Rattle.imap_data.proofs.Names.{list_tells}

items_are_told : Tells (item_eq.eq-value).it (λ x. x)
items_are_told = search rules

annotations_tell : Tells (pointwise (metadata_eq.eq-value).it) (map metadata_value)
annotations_tell = items_tell _ metadata_value metadata_tell

counts_tell : Tells (pointwise (item_eq.eq-value).it) (λ xs. xs)
counts_tell = plain_lists_tell _ items_are_told

-- the number of its kind
abbrev kind_of : DatumValue → ℕ
kind_of (Exists _) = 0
kind_of (Flags _) = 1
kind_of (Listed _) = 2
kind_of (Search _) = 3
kind_of (Sort _) = 4
kind_of (Status _ _) = 5
kind_of (Recent _) = 6
kind_of (MetadataSolicited _ _) = 7
kind_of (MetadataUnsolicited _ _) = 8
kind_of (GmailLabels _) = 9
kind_of (GmailMsgId _) = 10
kind_of (GmailThrId _) = 11

datum_same : (x y : MailboxDatum) → (datum_eq.eq-value).it x y ≡ true → datum_content x ≡ datum_content y
datum_same (datum.Exists x) (datum.Exists y) h = ap Exists (numbers_tell.same x y h)
datum_same (datum.Flags x) (datum.Flags y) h = ap Flags (text_lists_tell.same x.items y.items h)
datum_same (datum.List x) (datum.List y) h = ap Listed (list_tells.same x y h)
datum_same (datum.Search x) (datum.Search y) h = ap Search (text_tells.same x.items y.items h)
datum_same (datum.Sort x) (datum.Sort y) h = ap Sort (text_tells.same x.items y.items h)
datum_same (datum.Status x xs) (datum.Status y ys) h =
    let parts = and_parts _ _ h in
    let mailbox = texts_tell.same x y parts.0 in
    let items = counts_tell.same xs.items ys.items parts.1 in
    cc
datum_same (datum.Recent x) (datum.Recent y) h = ap Recent (numbers_tell.same x y h)
datum_same (datum.MetadataSolicited x xs) (datum.MetadataSolicited y ys) h =
    let parts = and_parts _ _ h in
    let mailbox = texts_tell.same x y parts.0 in
    let values = annotations_tell.same xs.items ys.items parts.1 in
    cc
datum_same (datum.MetadataUnsolicited x xs) (datum.MetadataUnsolicited y ys) h =
    let parts = and_parts _ _ h in
    let mailbox = texts_tell.same x y parts.0 in
    let entries = text_lists_tell.same xs.items ys.items parts.1 in
    cc
datum_same (datum.GmailLabels x) (datum.GmailLabels y) h = ap GmailLabels (text_lists_tell.same x.items y.items h)
datum_same (datum.GmailMsgId x) (datum.GmailMsgId y) h = ap GmailMsgId (numbers_tell.same x y h)
datum_same (datum.GmailThrId x) (datum.GmailThrId y) h = ap GmailThrId (numbers_tell.same x y h)
datum_same x y h = absurd (unequal h)

datum_equal : (x y : MailboxDatum) → datum_content x ≡ datum_content y → (datum_eq.eq-value).it x y ≡ true
datum_equal (datum.Exists x) (datum.Exists y) h = numbers_tell.equal x y cc
datum_equal (datum.Flags x) (datum.Flags y) h = text_lists_tell.equal x.items y.items cc
datum_equal (datum.List x) (datum.List y) h = list_tells.equal x y cc
datum_equal (datum.Search x) (datum.Search y) h = text_tells.equal x.items y.items cc
datum_equal (datum.Sort x) (datum.Sort y) h = text_tells.equal x.items y.items cc
datum_equal (datum.Status x xs) (datum.Status y ys) h = and_from _ _ (texts_tell.equal x y cc) (counts_tell.equal xs.items ys.items cc)
datum_equal (datum.Recent x) (datum.Recent y) h = numbers_tell.equal x y cc
datum_equal (datum.MetadataSolicited x xs) (datum.MetadataSolicited y ys) h = and_from _ _ (texts_tell.equal x y cc) (annotations_tell.equal xs.items ys.items cc)
datum_equal (datum.MetadataUnsolicited x xs) (datum.MetadataUnsolicited y ys) h = and_from _ _ (texts_tell.equal x y cc) (text_lists_tell.equal xs.items ys.items cc)
datum_equal (datum.GmailLabels x) (datum.GmailLabels y) h = text_lists_tell.equal x.items y.items cc
datum_equal (datum.GmailMsgId x) (datum.GmailMsgId y) h = numbers_tell.equal x y cc
datum_equal (datum.GmailThrId x) (datum.GmailThrId y) h = numbers_tell.equal x y cc
datum_equal x y h = absurd (kinds_apart kind_of _ _ refl h)

pub data_tell : Tells (datum_eq.eq-value).it datum_content
data_tell = record { same = datum_same; equal = datum_equal }
