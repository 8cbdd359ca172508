-- The text of a mailbox's data.
use Rattle.std.specs.Prelude.{ℕ, ◌⊎◌, List}
use Rattle.imap_grammar.specs.Pieces.{Pieces, ◌then◌, words, space, number_text, each, list_text}
use Rattle.imap_grammar.specs.ReadBack.{Texts}
use Rattle.imap_grammar.specs.Spelling.{exactly, in_any_case, ◌and◌, maybe, each_of, spells_number, spells_list}
use Rattle.imap_shared.specs.FlagTexts.{canonical_flag_list, spells_flag_list}
use Rattle.imap_shared.specs.GmailTexts.{canonical_label_list, canonical_msgid, canonical_thrid, spells_label_list, spells_msgid, spells_thrid}
use Rattle.imap_shared.specs.MailboxTexts.{canonical_mailbox, spells_mailbox}
use Rattle.imap_data.specs.declared.types.counts.StatusAttribute.{StatusAttribute}
use Rattle.imap_data.specs.declared.types.counts.StatusAttribute.TheVariants.{HighestModSeq, Messages, Recent as RecentItem, UidNext, UidValidity, Unseen}
use Rattle.imap_data.specs.NameTexts.{canonical_list, spells_list_data}
use Rattle.imap_data.specs.AnnotationTexts.{canonical_solicited, canonical_unsolicited, spells_solicited, spells_unsolicited}
use Rattle.imap_data.specs.DatumValues.{DatumValue, Exists, Flags, Listed, Search, Sort, Status, Recent, MetadataSolicited, MetadataUnsolicited, GmailLabels, GmailMsgId, GmailThrId}

abbrev pub canonical_item : StatusAttribute → Pieces
canonical_item (HighestModSeq n) = words "HIGHESTMODSEQ " then number_text n
canonical_item (Messages n) = words "MESSAGES " then number_text n
canonical_item (RecentItem n) = words "RECENT " then number_text n
canonical_item (UidNext n) = words "UIDNEXT " then number_text n
canonical_item (UidValidity n) = words "UIDVALIDITY " then number_text n
canonical_item (Unseen n) = words "UNSEEN " then number_text n

-- numbers, each behind a space
abbrev pub canonical_numbers : List ℕ → Pieces
canonical_numbers = each (λ n. space then number_text n)

abbrev pub canonical_datum : DatumValue → Pieces
canonical_datum (Flags flags) = words "FLAGS " then canonical_flag_list flags
canonical_datum (Exists n) = number_text n then words " EXISTS"
canonical_datum (Listed l) = words "LIST " then canonical_list l
canonical_datum (Status mailbox items) =
    words "STATUS " then canonical_mailbox mailbox then space then list_text canonical_item items
canonical_datum (Recent n) = number_text n then words " RECENT"
canonical_datum (Search ns) = words "SEARCH" then canonical_numbers ns
canonical_datum (Sort ns) = words "SORT" then canonical_numbers ns
canonical_datum (GmailLabels labels) = canonical_label_list labels
canonical_datum (GmailMsgId n) = canonical_msgid n
canonical_datum (GmailThrId n) = canonical_thrid n
canonical_datum (MetadataSolicited mailbox values) = canonical_solicited mailbox values
canonical_datum (MetadataUnsolicited mailbox entries) = canonical_unsolicited mailbox entries

abbrev pub spells_item : StatusAttribute → Texts
spells_item (HighestModSeq n) = in_any_case "HIGHESTMODSEQ " and spells_number n
spells_item (Messages n) = in_any_case "MESSAGES " and spells_number n
spells_item (RecentItem n) = in_any_case "RECENT " and spells_number n
spells_item (UidNext n) = in_any_case "UIDNEXT " and spells_number n
spells_item (UidValidity n) = in_any_case "UIDVALIDITY " and spells_number n
spells_item (Unseen n) = in_any_case "UNSEEN " and spells_number n

abbrev pub spells_numbers : List ℕ → Texts
spells_numbers ns = each_of (λ n. exactly " " and spells_number n) ns and maybe (exactly " ")

-- LIST and LSUB tell the same
abbrev pub spells_datum : DatumValue → Texts
spells_datum (Flags flags) = in_any_case "FLAGS " and spells_flag_list flags
spells_datum (Exists n) = spells_number n and in_any_case " EXISTS"
spells_datum (Listed l) =
    λ c.
    (in_any_case "LIST " and spells_list_data l) c ⊎ (in_any_case "LSUB " and spells_list_data l) c
spells_datum (Status mailbox items) =
    in_any_case "STATUS "
    and spells_mailbox mailbox
    and exactly " "
    and spells_list spells_item items
spells_datum (Recent n) = spells_number n and in_any_case " RECENT"
spells_datum (Search ns) = in_any_case "SEARCH" and spells_numbers ns
spells_datum (Sort ns) = in_any_case "SORT" and spells_numbers ns
spells_datum (GmailLabels labels) = spells_label_list labels
spells_datum (GmailMsgId n) = spells_msgid n
spells_datum (GmailThrId n) = spells_thrid n
spells_datum (MetadataSolicited mailbox values) = spells_solicited mailbox values
spells_datum (MetadataUnsolicited mailbox entries) = spells_unsolicited mailbox entries
