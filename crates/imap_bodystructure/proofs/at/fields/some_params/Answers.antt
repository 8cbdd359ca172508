use Rattle.std.proofs.Common.{refl, arith, ◌<◌, sym, ◌∙◌}
use Rattle.std.proofs.Math.Nat.{le_trans}
use Rattle.std.proofs.lemmas.Result.{err_from_is_err_and}
use Rattle.imap_grammar.proofs.Agreement.{stops}
use Rattle.imap_envelopes.specs.Envelopes.{spaced}
use Rattle.imap_bodystructure.specs.Fields.{body_param, some_params}
use Rattle.imap_body_types.specs.FieldValues.{pair_seen}
use Rattle.imap_envelopes.proofs.Keeping.{kept_rests}
use Rattle.imap_grammar.proofs.Joins.{tried_some, tried_none, tried_fault}
use Rattle.imap_envelopes.proofs.Gathering.{first, next, all, stopped, onward}
use Rattle.imap_grammar.specs.Positions.{named_in}
use Rattle.imap_body_types.proofs.Places.{alone, together}
use Rattle.imap_bodystructure.proofs.at.fields.some_params.Goals as goal

pub params-init : goal.params-init
params-init g c =
    let first_one = rw c.input.view_is at c.in_ok-q.ensures in
    record {
      gathered = rw (c.in_ok-items.ensures, c.in_ok-first.ensures.is) (first body_param (spaced body_param) _ _ _ first_one.steps);
      rests = rw c.in_ok-items.ensures (alone (λ n x. pair_seen (g.K.Keep.text_said n) x) _ _ (kept_rests _ _ _ _ _ _ c.in_ok-first.ensures first_one.rests));
      ahead = first_one.ahead.0;
      within = first_one.ahead.1;
    }

pub params-smaller : goal.params-smaller
params-smaller g c =
    let next_one = rw c.input.view_is at c.spaced_param.ensures in
    let is = tried_some _ _ _ (sym c.tried.ensures ∙ c.in_ok-after.was) c.in-Some.is in
    let less : c.params.q < c.in-Some.after = onward (spaced body_param) c.args.input.now _ _ _ (rw is at next_one.steps) refl in
    omega (arith, less, rw is at next_one.ahead)

pub params-preserved : goal.params-preserved
params-preserved g c =
    let next_one = rw c.input.view_is at c.spaced_param.ensures in
    let is = tried_some _ _ _ (sym c.tried.ensures ∙ c.in_ok-after.was) c.in-Some.is in
    let far = rw is at next_one.ahead in
    let kept = c.in_ok-kept_pair in
    let steps = rw is at next_one.steps in
    let rests = kept_rests _ _ _ _ _ _ kept.ensures (rw is at next_one.rests) in
    record {
      gathered = rw c.in_ok-push.ensures.items (next (λ x. pair_seen (g.K.Keep.text_said (named_in c.args.input.now)) x) _ (spaced body_param) _ _ _ kept.field-0 c.params.invariant.gathered (rw kept.ensures.is steps) refl);
      rests = rw c.in_ok-push.ensures.items (together (λ n x. pair_seen (g.K.Keep.text_said n) x) _ _ _ _ far.0 c.params.invariant.rests rests);
      ahead = le_trans c.params.invariant.ahead far.0;
      within = far.1;
    }

pub returns : goal.returns
unfolding some_params
returns g c =
    let next_one = rw c.input.view_is at c.spaced_param.ensures in
    let is = tried_none _ _ (sym c.tried.ensures ∙ c.in_ok-after.was) c.in_default.is in
    record {
      steps = all _ (spaced body_param) _ _ c.params.invariant.gathered (rw is at next_one.steps);
      ahead = (c.params.invariant.ahead, c.params.invariant.within);
      rests = record { same = λ n k alike. c.params.invariant.rests.same n k alike };
    }

pub returns-in_err-after : goal.returns-in_err-after
unfolding some_params
returns-in_err-after g c =
    let next_one = rw c.input.view_is at c.spaced_param.ensures in
    let p = err_from_is_err_and c.from_residual-in_err-after.result c.from_residual-in_err-after.ensures.1 in
    let q = tried_fault _ _ (sym c.tried.ensures ∙ c.in_err-after.was) in
    rw (p.1, p.2) (record { steps = stops _ _ (stopped _ (spaced body_param) _ _ c.in_err-after.field-0.0 c.params.invariant.gathered q.1 (rw q.0 at next_one.steps)); ahead = tt; rests = tt })
