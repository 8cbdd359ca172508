-- The text of an envelope and its addresses.
use Rattle.std.specs.Prelude.{List, Option, None, Some}
use Rattle.imap_grammar.specs.Text.{Text}
use Rattle.imap_grammar.specs.Pieces.{Pieces, ◌then◌, words, space, ntext, each}
use Rattle.imap_grammar.specs.ReadBack.{Texts}
use Rattle.imap_grammar.specs.Spelling.{exactly, ◌and◌, maybe, nil_or, some_each_of, spells_string}
use Rattle.imap_body_types.specs.EnvelopeValues.{AddressValue, EnvelopeValue}
use Rattle.imap_envelopes.specs.Envelopes.{Addresses}

-- ---- canonical text

abbrev pub canonical_address : AddressValue → Pieces
canonical_address a =
    words "("
    then ntext a.name
    then space
    then ntext a.adl
    then space
    then ntext a.mailbox
    then space
    then ntext a.host
    then words ")"

-- no space between addresses
abbrev pub canonical_addresses : Addresses → Pieces
canonical_addresses None = words "NIL"
canonical_addresses (Some list) = words "(" then each canonical_address list then words ")"

abbrev pub canonical_envelope : EnvelopeValue → Pieces
canonical_envelope e =
    words "(" then ntext e.date then space then ntext e.subject
    then space
    then canonical_addresses e.from
    then space
    then canonical_addresses e.sender
    then space
    then canonical_addresses e.reply_to
    then space
    then canonical_addresses e.to
    then space
    then canonical_addresses e.cc
    then space
    then canonical_addresses e.bcc
    then space then ntext e.in_reply_to then space then ntext e.message_id then words ")"

-- ---- spelling

abbrev pub behind_space : Texts → Texts
behind_space P = exactly " " and P

-- a byte string: its bytes as they are
abbrev pub spells_bytes : Option Text → Texts
spells_bytes = nil_or (λ t. spells_string t.bytes)

abbrev pub spells_address : AddressValue → Texts
spells_address a =
    exactly "("
    and spells_bytes a.name
    and behind_space (spells_bytes a.adl)
    and behind_space (spells_bytes a.mailbox)
    and behind_space (spells_bytes a.host)
    and exactly ")"

abbrev pub spells_some_addresses : List AddressValue → Texts
spells_some_addresses list =
    exactly "("
    and some_each_of (λ a. spells_address a and maybe (exactly " ")) list
    and exactly ")"

abbrev pub spells_addresses : Addresses → Texts
spells_addresses = nil_or spells_some_addresses

abbrev pub spells_envelope : EnvelopeValue → Texts
spells_envelope e =
    exactly "(" and spells_bytes e.date and behind_space (spells_bytes e.subject)
    and behind_space (spells_addresses e.from)
    and behind_space (spells_addresses e.sender)
    and behind_space (spells_addresses e.reply_to)
    and behind_space (spells_addresses e.to)
    and behind_space (spells_addresses e.cc)
    and behind_space (spells_addresses e.bcc)
    and behind_space (spells_bytes e.in_reply_to)
    and behind_space (spells_bytes e.message_id)
    and exactly ")"
