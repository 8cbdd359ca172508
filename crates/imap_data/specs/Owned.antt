-- The same values with all texts owned, and of which that takes no memory.
use Rattle.std.specs.Prelude.{Some}
use Rattle.imap_grammar.specs.Text.{owned_text, IsOwned}
use Rattle.imap_data.specs.Codes.{CodeValue, BadCharset, Capabilities, PermanentFlags, changed_code}
use Rattle.imap_data.specs.Names.{NameAttributeValue, Extension, ListValue, changed_name_attribute, changed_list}
use Rattle.imap_data.specs.DatumValues.{DatumValue, Flags, Listed, Status, MetadataSolicited, MetadataUnsolicited, GmailLabels, changed_datum}

abbrev pub owned_code : CodeValue → CodeValue
owned_code = changed_code owned_text

-- it holds no list of texts or of capabilities
abbrev pub HoldsNoTexts : CodeValue → Type 0
HoldsNoTexts (BadCharset (Some charsets)) = ⊥
HoldsNoTexts (Capabilities capabilities) = ⊥
HoldsNoTexts (PermanentFlags flags) = ⊥
HoldsNoTexts other = Unit {0}

abbrev pub owned_name_attribute : NameAttributeValue → NameAttributeValue
owned_name_attribute = changed_name_attribute owned_text

-- it holds no borrowed text
abbrev pub IsOwnedNameAttribute : NameAttributeValue → Type 0
IsOwnedNameAttribute (Extension t) = IsOwned t
IsOwnedNameAttribute other = Unit {0}

abbrev pub owned_list : ListValue → ListValue
owned_list = changed_list owned_text

abbrev pub owned_datum : DatumValue → DatumValue
owned_datum = changed_datum owned_text

-- it holds no list of texts or of attributes, and no borrowed text
abbrev pub IsMovedWhole : DatumValue → Type 0
IsMovedWhole (Flags flags) = ⊥
IsMovedWhole (Listed l) = ⊥
IsMovedWhole (Status mailbox items) = IsOwned mailbox
IsMovedWhole (MetadataSolicited mailbox values) = IsOwned mailbox
IsMovedWhole (MetadataUnsolicited mailbox values) = ⊥
IsMovedWhole (GmailLabels labels) = ⊥
IsMovedWhole other = Unit {0}
