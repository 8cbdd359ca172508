use Rattle.std.proofs.Common.{rules, Some, sym, subst, ◌∙◌}
use Rattle.imap_grammar.proofs.Joins.{tried_fault}
use Rattle.imap_grammar.specs.Answer.{Gives}
use Rattle.imap_grammar.specs.Text.{IsOwned}
use Rattle.imap_grammar.proofs.Memory.{handed}
use Rattle.imap_bytes.specs.Texts.{text, YieldsOwned}
use Rattle.imap_data.specs.Codes.{code_value}
use Rattle.imap_proto.specs.Responses.{outcome_value}
use Rattle.imap_proto.proofs.Memory.{code_missing, code_stopped, text_stopped, uncoded, outcome_text_wants, outcome_code_wants}
use Rattle.imap_proto.proofs.outcomes.coded_outcome.Goals as goal

pub returns-in_err-rest-clause-memory : goal.returns-in_err-rest-clause-memory
returns-in_err-rest-clause-memory c =
    let code = c.response_code.ensures in
    let was = tried_fault c.response_code.result c.in_err-rest.field-0.0 (sym c.tried.ensures ∙ c.in_err-rest.was) in
    code_stopped _ c.in_err-rest.field-0.0 c.response_code.result _ was.0 was.1 code.steps code.memory

pub returns-in_err-rest-in-Some-clause-memory : goal.returns-in_err-rest-in-Some-clause-memory
returns-in_err-rest-in-Some-clause-memory c =
    text_stopped _ _ (Some (code_value c.in-Some.code)) c.in_err-rest-in-Some.field-0.0 c.text.result _ (search rules) c.in_err-rest-in-Some.was c.text.ensures.steps c.text.ensures.memory

pub returns-in-None-clause-steps : goal.returns-in-None-clause-steps
returns-in-None-clause-steps c =
    let code = code_missing _ c.response_code.result c.in_ok-rest.field-0 (sym c.tried.ensures ∙ c.in_ok-rest.was) c.in-None.is c.response_code.ensures.steps in
    subst (Gives outcome_value c.plain_outcome.result) (sym (uncoded _ code)) c.plain_outcome.ensures.steps

pub returns-in-None-clause-memory : goal.returns-in-None-clause-memory
returns-in-None-clause-memory c =
    let code = code_missing _ c.response_code.result c.in_ok-rest.field-0 (sym c.tried.ensures ∙ c.in_ok-rest.was) c.in-None.is c.response_code.ensures.steps in
    λ v rest is k. c.plain_outcome.ensures.memory v rest (sym (uncoded _ code) ∙ is) k

-- ---- where memory may be wanted

pub returns-in_err-rest-clause-failure : goal.returns-in_err-rest-clause-failure
returns-in_err-rest-clause-failure c = outcome_code_wants _ c.response_code.result _ c.in_err-rest.field-0.0 _ (search rules) c.tried.ensures c.in_err-rest.was c.response_code.ensures.memory

pub returns-in_err-rest-in-Some-clause-failure : goal.returns-in_err-rest-in-Some-clause-failure
returns-in_err-rest-in-Some-clause-failure c =
    outcome_text_wants c.args.i.now c.in-Some.rest.now (Some (code_value c.in-Some.code)) _ (search rules)
    (handed (YieldsOwned IsOwned text c.in-Some.rest.now) c.in_err-rest-in-Some.field-0.0 c.text.result _ (search rules) c.in_err-rest-in-Some.was c.text.ensures.memory)

pub returns-in-None-clause-failure : goal.returns-in-None-clause-failure
returns-in-None-clause-failure c =
    let code = code_missing _ c.response_code.result c.in_ok-rest.field-0 (sym c.tried.ensures ∙ c.in_ok-rest.was) c.in-None.is c.response_code.ensures.steps in
    outcome_text_wants _ _ _ _ code c.plain_outcome.ensures.failure
