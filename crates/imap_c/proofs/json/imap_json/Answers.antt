use Rattle.std.proofs.Common.{◌∙◌, refl, sym, ap, inl, inr}
use Rattle.imap_grammar.specs.Answer.{Answers}
use Rattle.imap_proto.specs.Responses.{response_value}
use Rattle.imap_c.specs.declared.texts.TextAnswer.{TextAnswer}
use Rattle.imap_c.proofs.Telling.{fails, made_put}
use Rattle.imap_c.proofs.json.imap_json.Goals as goal

pub returns-in-Ok-clause-answer : goal.returns-in-Ok-clause-answer
unfolding Answers
returns-in-Ok-clause-answer c =
    let made = made_put (response_value c.in-Ok.response) c.to_json-text.result c.args.out.now c.put_text.new.out c.put_text.result c.to_json-text.ensures.text c.put_text.ensures in
    inl (response_value c.in-Ok.response, c.in-Ok.field-0-0.now, c.in-Ok.ensures.answer, made)

pub returns-in-Ok-clause-failure : goal.returns-in-Ok-clause-failure
unfolding Answers
returns-in-Ok-clause-failure c = λ told. inr (response_value c.in-Ok.response, c.in-Ok.field-0-0.now, c.in-Ok.ensures.answer)

pub returns-in-Err-clause-answer : goal.returns-in-Err-clause-answer
unfolding Answers
returns-in-Err-clause-answer c = inr (c.in-Err.error, c.in-Err.ensures.answer, (rw c.refused.ensures at c.without_text.ensures, refl))

pub returns-in-Err-clause-failure : goal.returns-in-Err-clause-failure
returns-in-Err-clause-failure c = λ told.
    inl (fails _ c.in-Err.error c.refused.result c.refused.ensures c.in-Err.ensures.failure (sym (ap (λ (t : TextAnswer). t.outcome) c.without_text.ensures) ∙ told))
