use Rattle.imap_grammar.proofs.Agreement.{answered}
use Rattle.imap_proto.proofs.LineTexts.{line_spells}
use Rattle.imap_proto.proofs.Ending.{line_ends}
use Rattle.imap_proto.proofs.response.Response.parse.Goals as goal

pub returns-clause-steps : goal.returns-clause-steps
returns-clause-steps c = c.response.ensures.steps

pub returns-clause-answer : goal.returns-clause-answer
returns-clause-answer c = answered _ _ _ _ c.response.ensures.steps

pub returns-clause-spells : goal.returns-clause-spells
returns-clause-spells c = line_spells _ _ _ c.response.ensures.steps

pub returns-clause-line : goal.returns-clause-line
returns-clause-line c = line_ends _ _ _ c.response.ensures.steps

pub returns-clause-failure : goal.returns-clause-failure
returns-clause-failure c = c.response.ensures.failure

pub returns-clause-memory : goal.returns-clause-memory
returns-clause-memory c = c.response.ensures.memory
