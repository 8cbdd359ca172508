use Rattle.std.proofs.Common.{refl, arith}
use Rattle.std.proofs.lemmas.Result.{err_from_is_err_and}
use Rattle.imap_grammar.proofs.Agreement.{stops}
use Rattle.imap_body_types.specs.FieldValues.{pair_seen}
use Rattle.imap_bodystructure.specs.Fields.{body_fld_param}
use Rattle.imap_body_types.proofs.Places.{rests_more, listed_rest}
use Rattle.imap_bodystructure.proofs.at.fields.body_fld_param.Goals as goal

pub returns : goal.returns
unfolding body_fld_param
returns g c = rw (← c.input.view_is) (record {
  steps = rw (c.in-Ok-first.ensures.steps) refl;
  ahead = (omega (arith, c.in-Ok-first.ensures.inside), c.in-Ok-first.ensures.inside.1);
  rests = record { same = λ n k alike. refl };
})

pub returns-in_err-q-3 : goal.returns-in_err-q-3
unfolding body_fld_param
returns-in_err-q-3 g c =
    let r = err_from_is_err_and c.from_residual-in_err-q-3.result c.from_residual-in_err-q-3.ensures.1 in
    let denied = rw c.in-Err-Error-first.field-0-is at c.in-Err-Error-first.ensures.steps in
    let params = rw (← c.input.view_is) at c.in_ok-q-2.ensures in
    rw (r.1, r.2, ← c.input.view_is) (record { steps = stops _ _ (rw (denied, c.in_ok-q.ensures.steps, params.steps, c.in_err-q-3.ensures.steps) refl); ahead = tt; rests = tt })

pub returns-in_err-q-4 : goal.returns-in_err-q-4
unfolding body_fld_param
returns-in_err-q-4 g c =
    let r = err_from_is_err_and c.from_residual-in_err-q-4.result c.from_residual-in_err-q-4.ensures.1 in
    let denied = rw c.in-Err-Error-first.field-0-is at c.in-Err-Error-first.ensures.steps in
    let params = rw (← c.input.view_is) at c.in_ok-q-2.ensures in
    rw (r.1, r.2, ← c.input.view_is) (record { steps = stops _ _ (rw (denied, c.in_ok-q.ensures.steps, params.steps, c.in_ok-q-3.ensures.steps, c.in_err-q-4.ensures.steps) refl); ahead = tt; rests = tt })

pub returns-3 : goal.returns-3
unfolding body_fld_param
returns-3 g c =
    let denied = rw c.in-Err-Error-first.field-0-is at c.in-Err-Error-first.ensures.steps in
    let params = rw (← c.input.view_is) at c.in_ok-q-2.ensures in
    let end = c.in_ok-q-4.ensures.inside in
    rw (← c.input.view_is) (record {
      steps = rw (denied, c.in_ok-q.ensures.steps, params.steps, c.in_ok-q-3.ensures.steps, c.in_ok-q-4.ensures.steps) refl;
      ahead = (omega (arith, c.in_ok-q.ensures.inside, params.ahead, c.in_ok-q-3.ensures.inside, end), end.1);
      rests = listed_rest (λ n x. pair_seen (g.K.Keep.text_said n) x) _ _ (rests_more _ (omega (arith, c.in_ok-q-3.ensures.inside, end)) params.rests);
    })
