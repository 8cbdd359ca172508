-- Data of a mailbox (RFC 3501, section 9: mailbox-data; RFC 5256, section 5: sort-data; X-GM-EXT-1).
use Rattle.std.specs.Prelude.{◌⊎◌, List}
use Rattle.imap_grammar.specs.Lists.{opened}
use Rattle.imap_grammar.specs.Text.{Bytes, Text, IsOwned}
use Rattle.imap_grammar.specs.Memory.{BeginsWord, StartsWith, Behind}
use Rattle.imap_grammar.specs.Rule.{Rule, gives, ◌⨾◌, ◌▹◌, ◌◃◌, ◌or◌}
use Rattle.imap_grammar.specs.Tags.{word, sp}
use Rattle.imap_bytes.specs.Numbers.{number}
use Rattle.imap_bytes.specs.Texts.{astring_utf8, YieldsOwned}
use Rattle.imap_data.specs.declared.types.counts.StatusAttribute.{StatusAttribute}
use Rattle.imap_shared.specs.Flags.{flag_text, flag_list}
use Rattle.imap_shared.specs.Mailboxes.{mailbox}
use Rattle.imap_data.specs.Names.{list_data, ListMayWant}
use Rattle.imap_data.specs.Counts.{status_item, status_items, found_number, found_numbers}
use Rattle.imap_shared.specs.Gmail.{gmail_label_list, gmail_msgid, gmail_thrid}
use Rattle.imap_data.specs.DatumValues.{DatumValue, Exists, Flags, Listed, Search, Sort, Status, Recent, GmailLabels, GmailMsgId, GmailThrId}

unfoldable pub flags : Rule DatumValue
flags = gives Flags (word "FLAGS " ▹ flag_list)

unfoldable pub exists : Rule DatumValue
exists = gives Exists (number ◃ word " EXISTS")

unfoldable pub list : Rule DatumValue
list = gives Listed (word "LIST " ▹ list_data)

unfoldable pub lsub : Rule DatumValue
lsub = gives Listed (word "LSUB " ▹ list_data)

abbrev pub status_of : Text × List StatusAttribute → DatumValue
status_of (mailbox, items) = Status mailbox items

unfoldable pub status : Rule DatumValue
status = gives status_of (word "STATUS " ▹ mailbox ⨾ sp ▹ status_items)

unfoldable pub recent : Rule DatumValue
recent = gives Recent (number ◃ word " RECENT")

unfoldable pub search : Rule DatumValue
search = gives Search (word "SEARCH" ▹ found_numbers)

unfoldable pub labels : Rule DatumValue
labels = gives GmailLabels gmail_label_list

unfoldable pub msgid : Rule DatumValue
msgid = gives GmailMsgId gmail_msgid

unfoldable pub thrid : Rule DatumValue
thrid = gives GmailThrId gmail_thrid

unfoldable pub sort : Rule DatumValue
sort = gives Sort (word "SORT" ▹ found_numbers)

-- mailbox-data = "FLAGS" SP flag-list / "LIST" SP mailbox-list / "LSUB" SP mailbox-list / "SEARCH" *(SP nz-number) /
-- "STATUS" SP mailbox SP "(" [status-att-list] ")" / number SP "EXISTS" / number SP "RECENT";
-- sort-data = "SORT" *(SP nz-number); and Gmail's items
unfoldable pub mailbox_datum : Rule DatumValue
mailbox_datum =
    flags
    or exists
    or list
    or lsub
    or status
    or recent
    or search
    or labels
    or msgid
    or thrid
    or sort

-- ---- where memory may be wanted: behind a first item of a list, or at a text that is not UTF-8

abbrev pub FlagsMayWant : Bytes → Type 0
FlagsMayWant m = Behind (word "FLAGS ") (StartsWith (opened flag_text)) m

abbrev pub NamesMayWant : Bytes → Type 0
NamesMayWant m = Behind (word "LIST ") ListMayWant m ⊎ Behind (word "LSUB ") ListMayWant m

abbrev pub StatusMayWant : Bytes → Type 0
StatusMayWant m =
    Behind (word "STATUS ") (YieldsOwned IsOwned astring_utf8) m
    ⊎ Behind (word "STATUS " ▹ mailbox ⨾ sp) (StartsWith (opened status_item)) m

abbrev pub NumbersMayWant : Bytes → Type 0
NumbersMayWant m =
    Behind (word "SEARCH") (StartsWith found_number) m
    ⊎ Behind (word "SORT") (StartsWith found_number) m

-- Of Gmail's labels more isn't said than that their word stands there.
abbrev pub MailboxMayWant : Bytes → Type 0
MailboxMayWant m =
    FlagsMayWant m
    ⊎ NamesMayWant m
    ⊎ BeginsWord "X-GM-LABELS " m
    ⊎ StatusMayWant m
    ⊎ NumbersMayWant m

-- ---- no further rules: those alternatives of `mailbox_datum` that may start with one byte, as the reader tries them

unfoldable pub datum_of_number : Rule DatumValue
datum_of_number = exists or recent

-- "LIST" SP mailbox-list / "LSUB" SP mailbox-list
unfoldable pub list_or_lsub : Rule DatumValue
list_or_lsub = list or lsub

unfoldable pub datum_of_s : Rule DatumValue
datum_of_s = status or search or sort

unfoldable pub datum_of_x : Rule DatumValue
datum_of_x = labels or msgid or thrid
