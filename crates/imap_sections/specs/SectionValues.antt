-- What names a section of a message (RFC 3501, section 9: section-spec).
use Rattle.std.specs.Prelude.{ℕ, List, Option}
use Rattle.imap_sections.specs.declared.types.sections.MessageSection.{MessageSection}
use Rattle.imap_sections.specs.declared.types.sections.SectionPath.{SectionPath}
use Rattle.imap_sections.specs.declared.types.sections.SectionPath.TheVariants as path

pub data PathValue : Type 0 where
  Full : MessageSection → PathValue
  Part : List ℕ → Option MessageSection → PathValue

abbrev pub path_value : SectionPath → PathValue
path_value (path.Full what) = Full what
path_value (path.Part numbers what) = Part numbers.items what
