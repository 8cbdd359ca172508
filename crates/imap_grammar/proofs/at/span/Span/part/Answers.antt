use Rattle.std.proofs.Common.{arith}
use Rattle.std.proofs.lemmas.Grind.{common_steps}
use Rattle.imap_grammar.proofs.Positions.{as_far}
use Rattle.imap_grammar.proofs.at.span.Span.part.Goals as goal

pub returns : goal.returns
returns c = grind (arith, common_steps, as_far)
