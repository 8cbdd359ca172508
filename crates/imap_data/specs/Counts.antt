-- Items of STATUS, and numbers that were found (RFC 3501, section 9: status-att-list, mailbox-data; RFC 4551, section
-- 4: status-att-val; RFC 5256, section 5: sort-data).
use Rattle.std.specs.Prelude.{ℕ, List}
use Rattle.imap_grammar.specs.Rule.{Rule, gives, many, ◌▹◌, ◌◃◌, ◌or◌}
use Rattle.imap_grammar.specs.Tags.{word, sp, maybe_space}
use Rattle.imap_grammar.specs.Lists.{list_of}
use Rattle.imap_bytes.specs.Numbers.{number, number_64}
use Rattle.imap_data.specs.declared.types.counts.StatusAttribute.{StatusAttribute}
use Rattle.imap_data.specs.declared.types.counts.StatusAttribute.TheVariants.{HighestModSeq, Messages, Recent, UidNext, UidValidity, Unseen}

unfoldable pub highest_mod_seq : Rule StatusAttribute
highest_mod_seq = gives HighestModSeq (word "HIGHESTMODSEQ " ▹ number_64)

unfoldable pub messages : Rule StatusAttribute
messages = gives Messages (word "MESSAGES " ▹ number)

unfoldable pub recent : Rule StatusAttribute
recent = gives Recent (word "RECENT " ▹ number)

unfoldable pub uid_next : Rule StatusAttribute
uid_next = gives UidNext (word "UIDNEXT " ▹ number)

unfoldable pub uid_validity : Rule StatusAttribute
uid_validity = gives UidValidity (word "UIDVALIDITY " ▹ number)

unfoldable pub unseen : Rule StatusAttribute
unseen = gives Unseen (word "UNSEEN " ▹ number)

-- status-att SP number, where status-att = "MESSAGES" / "RECENT" / "UIDNEXT" / "UIDVALIDITY" / "UNSEEN"; or
-- status-att-val =/ "HIGHESTMODSEQ" SP mod-sequence-valzer
unfoldable pub status_item : Rule StatusAttribute
status_item = highest_mod_seq or messages or recent or uid_next or uid_validity or unseen

-- the alternatives that begin with a U
unfoldable pub item_of_u : Rule StatusAttribute
item_of_u = uid_next or uid_validity or unseen

-- "(" [status-att-list] ")", where status-att-list = status-att SP number *(SP status-att SP number)
unfoldable pub status_items : Rule (List StatusAttribute)
status_items = list_of status_item

unfoldable pub found_number : Rule ℕ
found_number = sp ▹ number

-- *(SP nz-number), where zero is read, too, and a space may stand at the end, as some servers write it
unfoldable pub found_numbers : Rule (List ℕ)
found_numbers = many found_number ◃ maybe_space
