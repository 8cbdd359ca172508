-- Capabilities (RFC 3501, section 9: capability-data, capability; RFC 5161, section 4: enable-data).
use Rattle.std.specs.Prelude.{Bool, true, false, List}
use Rattle.std.specs.List.{list_any}
use Rattle.imap_grammar.specs.Text.{Bytes, as_text, Text, text_of, lent_text}
use Rattle.imap_grammar.specs.Rule.{Rule, gives, many, test, ◌▹◌, ◌or◌}
use Rattle.imap_grammar.specs.Tags.{word, names, sp}
use Rattle.imap_bytes.specs.Strings.{atom}
use Rattle.imap_shared.specs.declared.types.capabilities.Capability.{Capability}
use Rattle.imap_shared.specs.declared.types.capabilities.Capability.TheVariants as kind

-- ---- values

pub data CapabilityValue : Type 0 where
  Imap4rev1 : CapabilityValue
  Auth Atom : Text → CapabilityValue

abbrev pub capability_value : Capability → CapabilityValue
capability_value kind.Imap4rev1 = Imap4rev1
capability_value (kind.Auth t) = Auth (text_of t)
capability_value (kind.Atom t) = Atom (text_of t)

-- with its text changed by h
abbrev pub changed_capability : (Text → Text) → CapabilityValue → CapabilityValue
changed_capability h (Auth t) = Auth (h t)
changed_capability h (Atom t) = Atom (h t)
changed_capability h other = other

-- with its text borrowed: two values say the same where these are equal
abbrev pub lent_capability : CapabilityValue → CapabilityValue
lent_capability = changed_capability lent_text

-- what `==` and hashing tell of a capability
abbrev pub capability_content : Capability → CapabilityValue
capability_content c = lent_capability (capability_value c)

-- ---- rules

abbrev pub auth_of : Bytes → CapabilityValue
auth_of mechanism = Auth (as_text mechanism)

abbrev pub atom_of : Bytes → CapabilityValue
atom_of name = Atom (as_text name)

abbrev pub auth : Rule CapabilityValue
auth = gives auth_of (word "AUTH=" ▹ atom)

abbrev pub name : Rule CapabilityValue
name = gives atom_of atom

-- capability = ("AUTH=" auth-type) / atom. First the revision's name, whatever follows it; then `AUTH=` and a
-- mechanism; then any other atom.
unfoldable pub capability : Rule CapabilityValue
capability = names "IMAP4rev1" Imap4rev1 or auth or name

abbrev pub is_revision : CapabilityValue → Bool
is_revision Imap4rev1 = true
is_revision other = false

unfoldable pub spaced_capability : Rule CapabilityValue
spaced_capability = sp ▹ capability

abbrev pub spaced_capabilities : Rule (List CapabilityValue)
spaced_capabilities = many spaced_capability

-- capability-data = "CAPABILITY" *(SP capability) SP "IMAP4rev1" *(SP capability). Denied where no capability is the
-- revision.
unfoldable pub capability_data : Rule (List CapabilityValue)
capability_data = test (list_any is_revision) (word "CAPABILITY" ▹ spaced_capabilities)

-- each name as it stands, the revision's too
unfoldable pub spaced_name : Rule CapabilityValue
spaced_name = sp ▹ name

abbrev pub spaced_names : Rule (List CapabilityValue)
spaced_names = many spaced_name

-- enable-data = "ENABLED" *(SP capability)
unfoldable pub enabled_data : Rule (List CapabilityValue)
enabled_data = word "ENABLED" ▹ spaced_names
