use Rattle.std.proofs.Common.{rules}
use Rattle.imap_grammar.proofs.Agreement.{answered}
use Rattle.imap_bodystructure.proofs.readers.bodies.body_structure.Goals as goal

pub returns-clause-steps : goal.returns-clause-steps
returns-clause-steps c = search rules depth 2

pub returns-clause-answer : goal.returns-clause-answer
returns-clause-answer c = answered _ _ _ _ (returns-clause-steps c)
