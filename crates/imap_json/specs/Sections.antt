-- Sections of a message.
use Rattle.std.specs.Prelude.{codes}
use Rattle.serde_json.specs.Data.{Data}
use Rattle.imap_grammar.specs.Text.{Bytes}
use Rattle.imap_sections.specs.SectionValues.{PathValue, Full, Part}
use Rattle.imap_sections.specs.declared.types.sections.MessageSection.{MessageSection}
use Rattle.imap_sections.specs.declared.types.sections.MessageSection.TheVariants.{Header, Mime, Text}
use Rattle.imap_json.specs.Forms.{string_json, number_json, option_json, list_json, pair_json, variant_json}

abbrev pub section_name : MessageSection → Bytes
section_name Header = codes "Header"
section_name Mime = codes "Mime"
section_name Text = codes "Text"

abbrev pub section_json : MessageSection → Data
section_json s = string_json (section_name s)

abbrev pub path_json : PathValue → Data
path_json (Full what) = variant_json (codes "Full") (section_json what)
path_json (Part numbers what) =
    variant_json (codes "Part")
    (pair_json (list_json number_json) (option_json section_json) (numbers, what))
