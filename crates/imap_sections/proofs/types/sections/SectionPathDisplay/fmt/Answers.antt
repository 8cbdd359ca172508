use Rattle.std.proofs.Common.{arith}
use Rattle.std.proofs.lemmas.Grind.{common_steps}
use Rattle.imap_grammar.proofs.Reading.{written-append}
use Rattle.imap_sections.proofs.types.sections.SectionPathDisplay.fmt.Goals as goal

pub returns-in-Part-default-Some-clause-writes : goal.returns-in-Part-default-Some-clause-writes
returns-in-Part-default-Some-clause-writes g c = grind (arith, common_steps, written-append)
