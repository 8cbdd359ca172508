-- Sets of rules: where one of these is unfolded, each of its rules is.
use Rattle.std.specs.Prelude.{⊤}
use Rattle.imap_bytes.specs.Numbers.{number, digits}
use Rattle.imap_shared.specs.Capabilities.{capability_data}
use Rattle.imap_shared.specs.Gmail.{gmail_label_list, gmail_msgid, gmail_thrid}
use Rattle.imap_data.specs.Annotations.{metadata_solicited, metadata_unsolicited}
use Rattle.imap_data.specs.Codes.{any_code, basic_code, uid_code, metadata_code, bad_charset, capabilities, permanent_flags, uid_validity, uid_next, unseen, highest_mod_seq, append_uid, copy_uid, long_entries, max_size, too_many, no_private}
use Rattle.imap_data.specs.Counts.{status_item, messages, highest_mod_seq as item_mod_seq, recent as item_recent, uid_next as item_uid_next, uid_validity as item_uid_validity, unseen as item_unseen}
use Rattle.imap_data.specs.MailboxData.{mailbox_datum, flags, exists, list, lsub, status, recent, search, labels, msgid, thrid, sort, datum_of_number, list_or_lsub, datum_of_s, datum_of_x}

-- ---- codes

unfoldable pub basic_rules : ⊤
unfolding basic_code bad_charset capabilities permanent_flags uid_validity uid_next unseen
basic_rules = tt

unfoldable pub uid_rules : ⊤
unfolding uid_code highest_mod_seq append_uid copy_uid
uid_rules = tt

unfoldable pub metadata_rules : ⊤
unfolding metadata_code long_entries max_size too_many no_private
metadata_rules = tt

unfoldable pub code_rules : ⊤
unfolding any_code basic_rules uid_rules metadata_rules capability_data
code_rules = tt

-- ---- items of STATUS

unfoldable pub item_rules : ⊤
unfolding status_item item_mod_seq messages item_recent item_uid_next item_uid_validity item_unseen
item_rules = tt

-- ---- data of a mailbox

unfoldable pub annotation_rules : ⊤
unfolding metadata_solicited metadata_unsolicited
annotation_rules = tt

-- the alternatives behind RECENT
unfoldable pub last_rules : ⊤
unfolding search labels gmail_label_list msgid gmail_msgid thrid gmail_thrid sort
last_rules = tt

unfoldable pub datum_rules : ⊤
unfolding mailbox_datum flags exists list lsub status recent number digits last_rules
datum_rules = tt

-- ---- choices of data that may start with one byte, and their alternatives

unfoldable pub of_number : ⊤
unfolding datum_of_number exists recent
of_number = tt

unfoldable pub of_l : ⊤
unfolding list_or_lsub list lsub
of_l = tt

unfoldable pub of_s : ⊤
unfolding datum_of_s search sort
of_s = tt

unfoldable pub of_x : ⊤
unfolding datum_of_x labels msgid thrid
of_x = tt
