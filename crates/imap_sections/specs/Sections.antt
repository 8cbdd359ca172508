-- Sections of a message (RFC 3501, section 9: section, section-spec, section-part, section-text, section-msgtext,
-- header-list).
use Rattle.std.specs.Prelude.{ℕ, List, Option}
use Rattle.imap_grammar.specs.Text.{Bytes}
use Rattle.imap_grammar.specs.Rule.{Rule, gives, nothing, opt, otherwise, dropped, list1, ◌⨾◌, ◌▹◌, ◌◃◌, ◌or◌}
use Rattle.imap_grammar.specs.Tags.{tag, word, names, sp}
use Rattle.imap_bytes.specs.Numbers.{number}
use Rattle.imap_bytes.specs.Strings.{astring}
use Rattle.imap_sections.specs.declared.types.sections.MessageSection.{MessageSection}
use Rattle.imap_sections.specs.declared.types.sections.MessageSection.TheVariants.{Header, Mime, Text}
use Rattle.imap_sections.specs.SectionValues.{PathValue, Full, Part}

-- header-fld-name *(SP header-fld-name), each an astring: they are read and dropped
unfoldable pub header_names : Rule (Unit {0})
header_names = dropped (list1 sp astring)

-- header-list = "(" header-fld-name *(SP header-fld-name) ")"; the names may be missing, and a space may stand
--     before the `)`
unfoldable pub header_list : Rule (Unit {0})
header_list = tag "(" ▹ otherwise header_names tt ◃ opt sp ⨾ tag ")"

unfoldable pub fields_word : Rule Bytes
fields_word = word "HEADER.FIELDS"

unfoldable pub not_word : Rule Bytes
not_word = word ".NOT"

-- "HEADER.FIELDS" [".NOT"] SP header-list
unfoldable pub header_fields : Rule MessageSection
header_fields = fields_word ▹ opt not_word ▹ sp ▹ header_list ▹ nothing Header

-- section-msgtext = "HEADER" / "HEADER.FIELDS" [".NOT"] SP header-list / "TEXT"; the longer word is tried first
unfoldable pub section_msgtext : Rule MessageSection
section_msgtext = header_fields or names "HEADER" Header or names "TEXT" Text

-- ---- no further rules: the alternatives that may start with one byte, as the reader tries them

unfoldable pub header_text : Rule MessageSection
header_text = header_fields or names "HEADER" Header

unfoldable pub body_text : Rule MessageSection
body_text = names "TEXT" Text

-- section-text = section-msgtext / "MIME"
unfoldable pub section_text : Rule MessageSection
section_text = section_msgtext or names "MIME" Mime

-- section-part = nz-number *("." nz-number); zero is read too
unfoldable pub section_part : Rule (List ℕ)
section_part = list1 (tag ".") number

-- "." section-text
unfoldable pub part_text : Rule MessageSection
part_text = tag "." ▹ section_text

-- section-part ["." section-text]
unfoldable pub part_path : Rule PathValue
part_path = gives (λ v. Part v.0 v.1) (section_part ⨾ opt part_text)

-- section-spec = section-msgtext / (section-part ["." section-text])
unfoldable pub section_spec : Rule PathValue
section_spec = gives Full section_msgtext or part_path

-- section = "[" [section-spec] "]"
unfoldable pub section : Rule (Option PathValue)
section = tag "[" ▹ opt section_spec ◃ tag "]"
