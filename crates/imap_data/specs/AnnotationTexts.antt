-- The text of annotations of mailboxes.
use Rattle.std.specs.Prelude.{IsTrue, List}
use Rattle.imap_grammar.specs.Text.{Text, as_text}
use Rattle.imap_grammar.specs.Pieces.{Pieces, ◌then◌, words, space, lit, nstring_text, literal_text, quoted_text, separated, list_text}
use Rattle.imap_grammar.specs.ReadBack.{Texts}
use Rattle.imap_grammar.specs.Spelling.{exactly, in_any_case, ◌and◌, nil_or, with_between, lossily, spells_string_text, spells_astring, spells_quoted_text, spells_some_list}
use Rattle.imap_data.specs.Annotations.{is_entry_name}
use Rattle.imap_data.specs.AnnotationValues.{MetadataValue}

-- an entry's name and its value
abbrev pub canonical_annotation : MetadataValue → Pieces
canonical_annotation a = lit a.entry then space then nstring_text a.value

abbrev pub canonical_metadata : Text → Pieces
canonical_metadata mailbox = words "METADATA " then quoted_text mailbox then space

abbrev pub canonical_annotations : List MetadataValue → Pieces
canonical_annotations = list_text canonical_annotation

abbrev pub canonical_entries : List Text → Pieces
canonical_entries = separated space literal_text

abbrev pub canonical_solicited : Text → List MetadataValue → Pieces
canonical_solicited mailbox values = canonical_metadata mailbox then canonical_annotations values

abbrev pub canonical_unsolicited : Text → List Text → Pieces
canonical_unsolicited mailbox entries = canonical_metadata mailbox then canonical_entries entries

-- the name of an entry: an astring whose bytes are such a name
abbrev pub spells_entry : Text → Texts
spells_entry = lossily (λ b c. IsTrue (is_entry_name b) × spells_astring b c)

abbrev pub spells_annotation : MetadataValue → Texts
spells_annotation a =
    spells_entry (as_text a.entry)
    and exactly " "
    and nil_or (λ b. spells_string_text (as_text b)) a.value

abbrev pub spells_metadata : Text → Texts
spells_metadata mailbox = in_any_case "METADATA " and spells_quoted_text mailbox and exactly " "

abbrev pub spells_annotations : List MetadataValue → Texts
spells_annotations = spells_some_list spells_annotation

abbrev pub spells_entries : List Text → Texts
spells_entries = with_between (exactly " ") spells_entry

abbrev pub spells_solicited : Text → List MetadataValue → Texts
spells_solicited mailbox values = spells_metadata mailbox and spells_annotations values

abbrev pub spells_unsolicited : Text → List Text → Texts
spells_unsolicited mailbox entries = spells_metadata mailbox and spells_entries entries
