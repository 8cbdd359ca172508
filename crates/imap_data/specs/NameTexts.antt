-- The text of LIST data.
use Rattle.std.specs.Prelude.{Option, None, Some, IsTrue}
use Rattle.std.specs.Str.{is_utf8}
use Rattle.imap_grammar.specs.Classes.{is_atom_char}
use Rattle.imap_grammar.specs.Text.{Text}
use Rattle.imap_grammar.specs.Pieces.{Pieces, ◌then◌, words, space, plain, quoted_text, list_text}
use Rattle.imap_grammar.specs.ReadBack.{Texts}
use Rattle.imap_grammar.specs.Spelling.{exactly, in_any_case, ◌and◌, all_of, as_it_is, spells_quoted_text, spells_list, nil_or}
use Rattle.imap_shared.specs.MailboxTexts.{canonical_mailbox, spells_mailbox}
use Rattle.imap_data.specs.Names.{NameAttributeValue, NoInferiors, NoSelect, Marked, Unmarked, All, Archive, Drafts, Flagged, Junk, Sent, Trash, Extension, ListValue}

abbrev pub canonical_name_attribute : NameAttributeValue → Pieces
canonical_name_attribute NoInferiors = words "\\Noinferiors"
canonical_name_attribute NoSelect = words "\\Noselect"
canonical_name_attribute Marked = words "\\Marked"
canonical_name_attribute Unmarked = words "\\Unmarked"
canonical_name_attribute All = words "\\All"
canonical_name_attribute Archive = words "\\Archive"
canonical_name_attribute Drafts = words "\\Drafts"
canonical_name_attribute Flagged = words "\\Flagged"
canonical_name_attribute Junk = words "\\Junk"
canonical_name_attribute Sent = words "\\Sent"
canonical_name_attribute Trash = words "\\Trash"
canonical_name_attribute (Extension t) = plain t

-- the delimiter in quotes, as it stands
abbrev pub canonical_delimiter : Option Text → Pieces
canonical_delimiter None = words "NIL"
canonical_delimiter (Some t) = quoted_text t

abbrev pub canonical_list : ListValue → Pieces
canonical_list l =
    list_text canonical_name_attribute l.name_attributes
    then space
    then canonical_delimiter l.delimiter
    then space
    then canonical_mailbox l.name

-- a backslash and atom-chars, maybe none, in UTF-8
abbrev pub extension_word : Texts
extension_word c = (exactly "\\" and all_of is_atom_char) c × IsTrue (is_utf8 c)

abbrev pub spells_name_attribute : NameAttributeValue → Texts
spells_name_attribute NoInferiors = in_any_case "\\Noinferiors"
spells_name_attribute NoSelect = in_any_case "\\Noselect"
spells_name_attribute Marked = in_any_case "\\Marked"
spells_name_attribute Unmarked = in_any_case "\\Unmarked"
spells_name_attribute All = in_any_case "\\All"
spells_name_attribute Archive = in_any_case "\\Archive"
spells_name_attribute Drafts = in_any_case "\\Drafts"
spells_name_attribute Flagged = in_any_case "\\Flagged"
spells_name_attribute Junk = in_any_case "\\Junk"
spells_name_attribute Sent = in_any_case "\\Sent"
spells_name_attribute Trash = in_any_case "\\Trash"
spells_name_attribute (Extension t) = as_it_is extension_word t.bytes

abbrev pub spells_list_data : ListValue → Texts
spells_list_data l =
    spells_list spells_name_attribute l.name_attributes
    and exactly " "
    and nil_or spells_quoted_text l.delimiter
    and exactly " "
    and spells_mailbox l.name
