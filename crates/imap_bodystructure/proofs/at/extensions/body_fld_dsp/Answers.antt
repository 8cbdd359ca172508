use Rattle.std.proofs.Common.{refl, arith, ◌≤◌}
use Rattle.std.proofs.Math.Nat.{le_trans}
use Rattle.imap_envelopes.proofs.Keeping.{kept_rests}
use Rattle.imap_bodystructure.specs.Extensions.{body_fld_dsp}
use Rattle.imap_body_types.proofs.Places.{rests_more}
use Rattle.imap_bodystructure.proofs.at.extensions.body_fld_dsp.Goals as goal

pub returns : goal.returns
unfolding body_fld_dsp
returns g c = rw (← c.input.view_is) (record {
  steps = rw (c.in-Ok-first.ensures.steps) refl;
  ahead = (omega (arith, c.in-Ok-first.ensures.inside), c.in-Ok-first.ensures.inside.1);
  rests = record { same = λ n k alike. refl };
})

pub returns-3 : goal.returns-3
unfolding body_fld_dsp
returns-3 g c =
    let denied = rw c.in-Err-Error-first.field-0-is at c.in-Err-Error-first.ensures.steps in
    let end = rw c.input.view_is at c.in_ok-q-4.ensures in
    let q = c.in_ok-q-4.q in
    let e3 : c.in_ok-q-3.q ≤ q = omega (arith, end.inside) in
    let e2 : c.in_ok-q-2.q ≤ q = le_trans c.in_ok-q-3.ensures.ahead.0 e3 in
    let e1 : c.in_ok-q.q ≤ q = le_trans c.in_ok-q-2.ensures.ahead.0 e2 in
    let ty = kept_rests _ _ _ _ _ _ c.in_ok-ty.ensures (rests_more q e2 c.in_ok-q-2.ensures.rests) in
    let params = rests_more q e3 c.in_ok-q-3.ensures.rests in
    record {
      steps = rw (← c.input.view_is, denied, c.in_ok-q.ensures.steps, c.in_ok-q-2.ensures.steps, c.input.view_is, c.in_ok-q-3.ensures.steps, end.steps, c.in_ok-ty.ensures.is) refl;
      ahead = (omega (arith, c.in_ok-q.ensures.inside, e1), end.inside.1);
      rests = record { same = λ n k alike. rw (ty.same n k alike, params.same n k alike) refl };
    }
