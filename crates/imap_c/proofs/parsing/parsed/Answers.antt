use Rattle.std.proofs.Common.{inl, inr}
use Rattle.std.proofs.lemmas.Bool.{false≢true}
use Rattle.imap_grammar.specs.Answer.{Answers}
use Rattle.imap_proto.specs.Responses.{response_value}
use Rattle.imap_c.proofs.Telling.{fails}
use Rattle.imap_c.proofs.parsing.parsed.Goals as goal

pub returns-in-Ok-clause-answer : goal.returns-in-Ok-clause-answer
unfolding Answers
returns-in-Ok-clause-answer c = inl (response_value c.in-Ok.response, c.in-Ok.rest.now, c.in-Ok.ensures.answer, c.found-answer.ensures)

pub returns-in-Err-clause-answer : goal.returns-in-Err-clause-answer
unfolding Answers
returns-in-Err-clause-answer c = inr (c.in-Err.error, c.in-Err.ensures.answer, c.refused.ensures)

pub returns-in-Err-clause-failure : goal.returns-in-Err-clause-failure
returns-in-Err-clause-failure c = fails _ c.in-Err.error c.refused.result c.refused.ensures c.in-Err.ensures.failure

pub returns-in-Err-clause-memory : goal.returns-in-Err-clause-memory
returns-in-Err-clause-memory c = λ v rest is none. absurd (false≢true (c.in-Err.ensures.memory v rest is none))
