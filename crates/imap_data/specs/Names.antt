-- Attributes of mailbox names and the data of LIST (RFC 3501, section 9: mailbox-list, mbx-list-flags,
-- mbx-list-oflag, mbx-list-sflag; RFC 6154, section 6: use-attr).
use Rattle.std.specs.Prelude.{◌⊎◌, List, Option, None, Some, option_map, map}
use Rattle.imap_grammar.specs.Memory.{Behind, StartsWith}
use Rattle.imap_grammar.specs.Text.{Bytes, Text, as_text, text_of, lent_text, IsOwned}
use Rattle.imap_grammar.specs.Rule.{Rule, gives, nothing, ◌⨾◌, ◌▹◌, ◌or◌}
use Rattle.imap_grammar.specs.Tags.{names, sp}
use Rattle.imap_grammar.specs.Lists.{list_of, opened}
use Rattle.imap_bytes.specs.Strings.{nil}
use Rattle.imap_bytes.specs.Texts.{quoted_utf8, astring_utf8, YieldsOwned}
use Rattle.imap_shared.specs.Flags.{backslashed_text}
use Rattle.imap_shared.specs.Copies.{IsLent}
use Rattle.imap_shared.specs.Mailboxes.{mailbox}
use Rattle.imap_data.specs.declared.types.names.NameAttribute.{NameAttribute}
use Rattle.imap_data.specs.declared.types.names.NameAttribute.TheVariants as name
use Rattle.imap_data.specs.declared.types.names.MailboxListData.{MailboxListData}

-- ---- values

pub data NameAttributeValue : Type 0 where
  NoInferiors NoSelect Marked Unmarked : NameAttributeValue
  All Archive Drafts Flagged Junk Sent Trash : NameAttributeValue
  Extension : Text → NameAttributeValue

pub record ListValue : Type 0 where
  pub name_attributes : List NameAttributeValue
  pub delimiter : Option Text
  pub name : Text

-- ---- of the code's values

abbrev pub name_attribute_value : NameAttribute → NameAttributeValue
name_attribute_value name.NoInferiors = NoInferiors
name_attribute_value name.NoSelect = NoSelect
name_attribute_value name.Marked = Marked
name_attribute_value name.Unmarked = Unmarked
name_attribute_value name.All = All
name_attribute_value name.Archive = Archive
name_attribute_value name.Drafts = Drafts
name_attribute_value name.Flagged = Flagged
name_attribute_value name.Junk = Junk
name_attribute_value name.Sent = Sent
name_attribute_value name.Trash = Trash
name_attribute_value (name.Extension t) = Extension (text_of t)

abbrev pub list_value : MailboxListData → ListValue
list_value l =
    record {
      name_attributes = map name_attribute_value l.name_attributes.items;
      delimiter = option_map text_of l.delimiter;
      name = text_of l.name;
    }

-- ---- with each text changed by h

abbrev pub changed_name_attribute : (Text → Text) → NameAttributeValue → NameAttributeValue
changed_name_attribute h (Extension t) = Extension (h t)
changed_name_attribute h other = other

abbrev pub changed_list : (Text → Text) → ListValue → ListValue
changed_list h l =
    record {
      name_attributes = map (changed_name_attribute h) l.name_attributes;
      delimiter = option_map h l.delimiter;
      name = h l.name;
    }

-- ---- with all texts borrowed: two values say the same where these are equal

abbrev pub lent_name_attribute : NameAttributeValue → NameAttributeValue
lent_name_attribute = changed_name_attribute lent_text

abbrev pub lent_list : ListValue → ListValue
lent_list = changed_list lent_text

abbrev pub name_attribute_content : NameAttribute → NameAttributeValue
name_attribute_content a = lent_name_attribute (name_attribute_value a)

abbrev pub list_content : MailboxListData → ListValue
list_content l = lent_list (list_value l)

-- it holds no owned text
abbrev pub IsLentNameAttribute : NameAttributeValue → Type 0
IsLentNameAttribute (Extension t) = IsLent t
IsLentNameAttribute other = Unit {0}

-- ---- rules

-- an extension's text has its backslash
abbrev pub extension_of : Bytes → NameAttributeValue
extension_of bytes = Extension (as_text bytes)

-- mbx-list-oflag = "\Noinferiors" / flag-extension; mbx-list-sflag = "\Noselect" / "\Marked" / "\Unmarked";
-- use-attr = "\All" / "\Archive" / "\Drafts" / "\Flagged" / "\Junk" / "\Sent" / "\Trash" / use-attr-ext. A word is
-- taken by its prefix: what stands behind it is left.
unfoldable pub name_attribute : Rule NameAttributeValue
name_attribute =
    names "\\Noinferiors" NoInferiors
    or names "\\Noselect" NoSelect
    or names "\\Marked" Marked
    or names "\\Unmarked" Unmarked
    or names "\\All" All
    or names "\\Archive" Archive
    or names "\\Drafts" Drafts
    or names "\\Flagged" Flagged
    or names "\\Junk" Junk
    or names "\\Sent" Sent
    or names "\\Trash" Trash
    or gives extension_of backslashed_text

unfoldable pub name_attributes : Rule (List NameAttributeValue)
name_attributes = list_of name_attribute

abbrev pub some_delimiter : Rule (Option Text)
some_delimiter = gives Some quoted_utf8

-- the hierarchy delimiter: nil where the names have none
unfoldable pub delimiter : Rule (Option Text)
delimiter = some_delimiter or nil ▹ nothing None

abbrev pub list_of_parts : List NameAttributeValue × (Option Text × Text) → ListValue
list_of_parts (attributes, (delimiter, name)) =
    record {
      name_attributes = attributes;
      delimiter = delimiter;
      name = name;
    }

-- mailbox-list = "(" [mbx-list-flags] ")" SP (DQUOTE QUOTED-CHAR DQUOTE / nil) SP mailbox, where any text may stand in
-- the quotes
unfoldable pub list_data : Rule ListValue
list_data = gives list_of_parts (name_attributes ⨾ sp ▹ delimiter ⨾ sp ▹ mailbox)

-- ---- where its reader may want memory: behind a first attribute, or at a delimiter or a name that is not UTF-8

abbrev pub ListMayWant : Bytes → Type 0
ListMayWant m =
    StartsWith (opened name_attribute) m
    ⊎ Behind (name_attributes ⨾ sp) (YieldsOwned IsOwned quoted_utf8) m
    ⊎ Behind (name_attributes ⨾ sp ▹ delimiter ⨾ sp) (YieldsOwned IsOwned astring_utf8) m
