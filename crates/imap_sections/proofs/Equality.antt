-- What `==` tells of sections.
use Rattle.std.proofs.Common.{rules}
use Rattle.imap_grammar.specs.Equality.{Tells}
use Rattle.imap_sections.specs.SectionValues.{path_value}
use Rattle.imap_sections.specs.contracts.types.sections.MessageSectionPartialEq.TheImpl as section_eq
use Rattle.imap_sections.specs.contracts.types.sections.SectionPathPartialEq.TheImpl as path_eq

pub sections_tell : Tells (section_eq.eq-value).it (λ x. x)
sections_tell = search rules

pub paths_tell : Tells (path_eq.eq-value).it path_value
paths_tell = search rules
