-- The text of an attribute of a message: its word and its value.
use Rattle.std.specs.Prelude.{ℕ, ◌<◌, ◌⊎◌, List, [], ◌++◌, Option, None, Some}
use Rattle.imap_grammar.specs.Classes.{is_atom_char, is_astring_char}
use Rattle.imap_grammar.specs.Text.{Bytes, Text}
use Rattle.imap_grammar.specs.Pieces.{Pieces, written, ◌then◌, words, space, number_text, plain, literal_text, ntext, list_text}
use Rattle.imap_grammar.specs.Rule.{Rule, meaning}
use Rattle.imap_grammar.specs.ReadBack.{Texts, EndsItem, SpellsAndReadsBack}
use Rattle.imap_grammar.specs.Spelling.{this, exactly, in_any_case, ◌and◌, all_of, some_of, utf8_of, as_it_is, maybe, nil_or, spells_number, spells_nstring, spells_string_text, spells_ntext, spells_some_list}
use Rattle.imap_shared.specs.FlagTexts.{canonical_flag_list, spells_flag_list}
use Rattle.imap_shared.specs.GmailTexts.{canonical_label_list, canonical_msgid, canonical_thrid, spells_label_list, spells_msgid, spells_thrid}
use Rattle.imap_envelopes.specs.EnvelopeTexts.{canonical_envelope, behind_space, spells_bytes, spells_envelope}
use Rattle.imap_bodystructure.specs.BodyTexts.{canonical_body, spells_body}
use Rattle.imap_sections.specs.SectionTexts.{canonical_section, spells_section}
use Rattle.imap_body.specs.Attributes.{is_within_brackets, is_bare, attribute}
use Rattle.imap_body.specs.AttributeValues.{AttributeValue}
use Rattle.imap_body.specs.AttributeValues as said
use Rattle.imap_body.specs.Changed.{lent_attribute}

-- ---- canonical text

-- from which byte the contents of a section were sent
abbrev pub canonical_origin : Option ℕ → Pieces
canonical_origin None = []
canonical_origin (Some n) = words "<" then number_text n then words ">"

-- an object's identifier, in brackets
abbrev pub canonical_id : Text → Pieces
canonical_id id = words "(" then plain id then words ")"

abbrev pub canonical_nid : Option Text → Pieces
canonical_nid None = words "NIL"
canonical_nid (Some id) = canonical_id id

-- an unknown attribute's name and value are not kept: `X NIL` stands for any
abbrev pub canonical_attribute : AttributeValue → Pieces
canonical_attribute (said.BodySection path origin contents) =
    words "BODY"
    then canonical_section path
    then canonical_origin origin
    then space
    then ntext contents
canonical_attribute (said.BodyStructure body) = words "BODYSTRUCTURE " then canonical_body body
canonical_attribute (said.Envelope envelope) = words "ENVELOPE " then canonical_envelope envelope
canonical_attribute (said.InternalDate date) = words "INTERNALDATE " then literal_text date
canonical_attribute (said.Flags flags) = words "FLAGS " then canonical_flag_list flags
canonical_attribute (said.ModSeq n) = words "MODSEQ " then words "(" then number_text n then words ")"
canonical_attribute (said.Rfc822 message) = words "RFC822 " then ntext message
canonical_attribute (said.Rfc822Header header) = words "RFC822.HEADER " then ntext header
canonical_attribute (said.Rfc822Size n) = words "RFC822.SIZE " then number_text n
canonical_attribute (said.Rfc822Text text) = words "RFC822.TEXT " then ntext text
canonical_attribute (said.Uid n) = words "UID " then number_text n
canonical_attribute (said.GmailLabels labels) = canonical_label_list labels
canonical_attribute (said.GmailMsgId n) = canonical_msgid n
canonical_attribute (said.GmailThrId n) = canonical_thrid n
canonical_attribute (said.EmailId id) = words "EMAILID " then canonical_id id
canonical_attribute (said.ThreadId id) = words "THREADID " then canonical_nid id
canonical_attribute (said.SaveDate date) = words "SAVEDATE " then ntext date
canonical_attribute said.Unknown = words "X NIL"

abbrev pub canonical_attributes : List AttributeValue → Pieces
canonical_attributes = list_text canonical_attribute

-- ---- spelling

abbrev pub spells_origin : Option ℕ → Texts
spells_origin None = this []
spells_origin (Some n) = exactly "<" and spells_number n and exactly ">"

abbrev pub spells_id : Text → Texts
spells_id id = exactly "(" and as_it_is (utf8_of is_astring_char) id.bytes and exactly ")"

-- any name: atom-chars that are UTF-8
abbrev pub any_name : Texts
any_name = utf8_of is_atom_char

-- any value: in brackets up to the first `)`, an nstring, or bytes other than SP and `)`; line ends may be among them
abbrev pub any_value : Texts
any_value c =
    (exactly "(" and all_of is_within_brackets and exactly ")") c
    ⊎ (((v : Option Bytes) × spells_nstring v c) ⊎ some_of is_bare c)

abbrev pub spells_attribute : AttributeValue → Texts
spells_attribute (said.BodySection path origin contents) =
    in_any_case "BODY"
    and spells_section path
    and spells_origin origin
    and behind_space (spells_bytes contents)
spells_attribute (said.BodyStructure body) = in_any_case "BODYSTRUCTURE " and spells_body body
spells_attribute (said.Envelope envelope) = in_any_case "ENVELOPE " and spells_envelope envelope
spells_attribute (said.InternalDate date) = in_any_case "INTERNALDATE " and spells_string_text date
spells_attribute (said.Flags flags) = in_any_case "FLAGS " and spells_flag_list flags
spells_attribute (said.ModSeq n) =
    in_any_case "MODSEQ " and exactly "(" and spells_number n and exactly ")"
spells_attribute (said.Rfc822 message) = in_any_case "RFC822 " and spells_bytes message
spells_attribute (said.Rfc822Header header) =
    in_any_case "RFC822.HEADER " and maybe (exactly " ") and spells_bytes header
spells_attribute (said.Rfc822Size n) = in_any_case "RFC822.SIZE " and spells_number n
spells_attribute (said.Rfc822Text text) = in_any_case "RFC822.TEXT " and spells_bytes text
spells_attribute (said.Uid n) = in_any_case "UID " and spells_number n
spells_attribute (said.GmailLabels labels) = spells_label_list labels
spells_attribute (said.GmailMsgId n) = spells_msgid n
spells_attribute (said.GmailThrId n) = spells_thrid n
spells_attribute (said.EmailId id) = in_any_case "EMAILID " and spells_id id
spells_attribute (said.ThreadId id) = in_any_case "THREADID " and nil_or spells_id id
spells_attribute (said.SaveDate date) = in_any_case "SAVEDATE " and spells_ntext date
spells_attribute said.Unknown = any_name and exactly " " and any_value

abbrev pub spells_attributes : List AttributeValue → Texts
spells_attributes = spells_some_list spells_attribute

-- ---- what is promised of a rule that yields an attribute

-- What it takes spells the attribute, and the attribute's canonical text reads back, also before a space.
abbrev pub AttributeReadsBack : Rule AttributeValue → Type 0
AttributeReadsBack r =
    SpellsAndReadsBack r lent_attribute canonical_attribute spells_attribute EndsItem

-- The attribute is read with each number below the bound: from its canonical text, also before a space.
abbrev pub ReadsEachBelow : ℕ → (ℕ → AttributeValue) → Type 0
ReadsEachBelow bound value =
    (n : ℕ) (t : Bytes) → n < bound → EndsItem t →
    (meaning attribute).yields (written (canonical_attribute (value n)) ++ t) (value n) t
