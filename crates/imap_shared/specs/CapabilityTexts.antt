-- The text of capabilities.
use Rattle.std.specs.Prelude.{◌≡◌, true, List, cond}
use Rattle.std.specs.List.{list_any}
use Rattle.imap_grammar.specs.Classes.{is_atom_char}
use Rattle.imap_grammar.specs.Pieces.{Pieces, ◌then◌, words, space, plain, each}
use Rattle.imap_grammar.specs.ReadBack.{Texts}
use Rattle.imap_grammar.specs.Text.{Bytes}
use Rattle.imap_grammar.specs.Spelling.{exactly, in_any_case, ◌and◌, utf8_of, as_it_is, each_of}
use Rattle.imap_shared.specs.Capabilities.{CapabilityValue, Imap4rev1, Auth, Atom, is_revision}

abbrev pub canonical_capability : CapabilityValue → Pieces
canonical_capability Imap4rev1 = words "IMAP4rev1"
canonical_capability (Auth mechanism) = words "AUTH=" then plain mechanism
canonical_capability (Atom name) = plain name

abbrev pub canonical_each : List CapabilityValue → Pieces
canonical_each = each (λ c. space then canonical_capability c)

-- the revision is told by CAPABILITY alone
abbrev pub canonical_capabilities : List CapabilityValue → Pieces
canonical_capabilities cs =
    cond (list_any is_revision cs) (words "CAPABILITY") (words "ENABLED") then canonical_each cs

-- an atom stands as it is
abbrev pub spells_atom : Bytes → Texts
spells_atom = as_it_is (utf8_of is_atom_char)

abbrev pub spells_capability : CapabilityValue → Texts
spells_capability Imap4rev1 = in_any_case "IMAP4rev1"
spells_capability (Auth mechanism) = in_any_case "AUTH=" and spells_atom mechanism.bytes
spells_capability (Atom name) = spells_atom name.bytes

-- what the server offers: the revision is among them
abbrev pub spells_capability_data : List CapabilityValue → Texts
spells_capability_data cs c =
    (list_any is_revision cs ≡ true)
    × (in_any_case "CAPABILITY" and each_of (λ x. exactly " " and spells_capability x) cs) c

-- a name that was turned on: no revision and no mechanism
abbrev pub spells_enabled : CapabilityValue → Texts
spells_enabled (Atom name) = spells_atom name.bytes
spells_enabled other = λ c. ⊥

abbrev pub spells_enabled_data : List CapabilityValue → Texts
spells_enabled_data cs =
    in_any_case "ENABLED" and each_of (λ x. exactly " " and spells_enabled x) cs
