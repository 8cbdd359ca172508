use Rattle.std.proofs.lemmas.Result.{err_from_is_err_and}
use Rattle.imap_grammar.proofs.Agreement.{exact_answer}
use Rattle.imap_sections.proofs.types.sections.MessageSection.parse.Goals as goal

pub returns-clause-steps : goal.returns-clause-steps
returns-clause-steps c = rw (c.rest.ensures) c.in_ok-q.ensures.steps

pub returns-clause-answer : goal.returns-clause-answer
returns-clause-answer c = exact_answer _ _ _ _ (returns-clause-steps c)

pub returns-in_err-q-clause-steps : goal.returns-in_err-q-clause-steps
returns-in_err-q-clause-steps c =
    let r = err_from_is_err_and c.from_residual.result c.from_residual.ensures.1 in
    rw (r.1, r.2) c.in_err-q.ensures.steps

pub returns-in_err-q-clause-answer : goal.returns-in_err-q-clause-answer
returns-in_err-q-clause-answer c = exact_answer _ _ _ _ (returns-in_err-q-clause-steps c)
