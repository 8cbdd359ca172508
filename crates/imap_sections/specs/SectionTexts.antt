-- The text of a section: its path, in brackets.
use Rattle.std.specs.Prelude.{ℕ, ◌⊎◌, List, [], Option, None, Some}
use Rattle.imap_grammar.specs.Text.{Bytes}
use Rattle.imap_grammar.specs.Pieces.{Pieces, ◌then◌, words, number_text, separated}
use Rattle.imap_grammar.specs.ReadBack.{Texts}
use Rattle.imap_grammar.specs.Spelling.{this, exactly, in_any_case, ◌and◌, maybe, some_with_between, with_between, spells_number, spells_astring}
use Rattle.imap_sections.specs.declared.types.sections.MessageSection.{MessageSection}
use Rattle.imap_sections.specs.declared.types.sections.MessageSection.TheVariants.{Header, Mime, Text}
use Rattle.imap_sections.specs.SectionValues.{PathValue, Full, Part}

-- a header is told by one word, whichever of its fields were named
abbrev pub canonical_section_text : MessageSection → Pieces
canonical_section_text Header = words "HEADER"
canonical_section_text Mime = words "MIME"
canonical_section_text Text = words "TEXT"

abbrev pub canonical_part : List ℕ → Pieces
canonical_part = separated (words ".") number_text

abbrev pub canonical_text_behind : Option MessageSection → Pieces
canonical_text_behind None = []
canonical_text_behind (Some what) = words "." then canonical_section_text what

abbrev pub canonical_path : PathValue → Pieces
canonical_path (Full what) = canonical_section_text what
canonical_path (Part numbers what) = canonical_part numbers then canonical_text_behind what

abbrev pub canonical_spec : Option PathValue → Pieces
canonical_spec None = []
canonical_spec (Some path) = canonical_path path

abbrev pub canonical_section : Option PathValue → Pieces
canonical_section path = words "[" then canonical_spec path then words "]"

-- ---- spelling

-- any names of header fields, with one space between, maybe none
abbrev pub spells_header_names : Texts
spells_header_names c = (names : List Bytes) × with_between (exactly " ") spells_astring names c

-- the same in brackets, where a space may stand before the `)`
abbrev pub spells_header_list : Texts
spells_header_list = exactly "(" and spells_header_names and maybe (exactly " ") and exactly ")"

abbrev pub spells_header : Texts
spells_header c =
    in_any_case "HEADER" c
    ⊎ (in_any_case "HEADER.FIELDS"
    and maybe (in_any_case ".NOT")
    and exactly " "
    and spells_header_list) c

-- of a whole message: no text names its MIME header
abbrev pub spells_message_text : MessageSection → Texts
spells_message_text Header = spells_header
spells_message_text Mime = λ c. ⊥
spells_message_text Text = in_any_case "TEXT"

-- of a part
abbrev pub spells_section_text : MessageSection → Texts
spells_section_text Header = spells_header
spells_section_text Mime = in_any_case "MIME"
spells_section_text Text = in_any_case "TEXT"

abbrev pub spells_part : List ℕ → Texts
spells_part = some_with_between (exactly ".") spells_number

abbrev pub spells_text_behind : Option MessageSection → Texts
spells_text_behind None = this []
spells_text_behind (Some what) = exactly "." and spells_section_text what

abbrev pub spells_path : PathValue → Texts
spells_path (Full what) = spells_message_text what
spells_path (Part numbers what) = spells_part numbers and spells_text_behind what

abbrev pub spells_spec : Option PathValue → Texts
spells_spec None = this []
spells_spec (Some path) = spells_path path

abbrev pub spells_section : Option PathValue → Texts
spells_section path = exactly "[" and spells_spec path and exactly "]"
