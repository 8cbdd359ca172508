-- Attributes of mailbox names, grouped by the byte behind the backslash: the words that begin so, then any other
-- attribute.
use Rattle.imap_grammar.specs.Rule.{Rule, gives, ◌or◌}
use Rattle.imap_grammar.specs.Tags.{names}
use Rattle.imap_shared.specs.Flags.{backslashed_text}
use Rattle.imap_data.specs.Names.{NameAttributeValue, NoInferiors, NoSelect, Marked, Unmarked, All, Archive, Drafts, Flagged, Junk, Sent, Trash, extension_of}

-- flag-extension
unfoldable pub extension : Rule NameAttributeValue
extension = gives extension_of backslashed_text

unfoldable pub name_attribute_of_n : Rule NameAttributeValue
name_attribute_of_n = names "\\Noinferiors" NoInferiors or names "\\Noselect" NoSelect or extension

unfoldable pub name_attribute_of_m_u : Rule NameAttributeValue
name_attribute_of_m_u = names "\\Marked" Marked or names "\\Unmarked" Unmarked or extension

unfoldable pub name_attribute_of_a : Rule NameAttributeValue
name_attribute_of_a = names "\\All" All or names "\\Archive" Archive or extension

unfoldable pub name_attribute_of_d_f_j : Rule NameAttributeValue
name_attribute_of_d_f_j =
    names "\\Drafts" Drafts or names "\\Flagged" Flagged or names "\\Junk" Junk or extension

unfoldable pub name_attribute_of_s_t : Rule NameAttributeValue
name_attribute_of_s_t = names "\\Sent" Sent or names "\\Trash" Trash or extension
