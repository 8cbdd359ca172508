-- The same values with all texts owned, and which of them are so already.
use Rattle.imap_grammar.specs.Text.{owned_text, IsOwned}
use Rattle.imap_shared.specs.Capabilities.{CapabilityValue, Auth, Atom, changed_capability}

abbrev pub owned_capability : CapabilityValue → CapabilityValue
owned_capability = changed_capability owned_text

-- it holds no borrowed text
abbrev pub IsOwnedCapability : CapabilityValue → Type 0
IsOwnedCapability (Auth t) = IsOwned t
IsOwnedCapability (Atom t) = IsOwned t
IsOwnedCapability other = Unit {0}
