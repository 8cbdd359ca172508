use Rattle.std.proofs.Common.{refl, ap, ◌≡◌}
use Rattle.std.proofs.Math.Nat.{le_trans}
use Rattle.std.proofs.lemmas.Result.{err_from_is_err_and}
use Rattle.imap_grammar.proofs.Agreement.{stops_with}
use Rattle.imap_body_types.specs.FieldValues.{ParamsValue}
use Rattle.imap_body_types.specs.ExtensionValues.{ext_mpart_seen}
use Rattle.imap_bodystructure.specs.Extensions.{SharedValue, ext_mpart_of, body_ext_mpart, shared_fields_seen}
use Rattle.imap_body_types.proofs.Places.{rests_more}
use Rattle.imap_bodystructure.proofs.at.extensions.body_ext_mpart.Goals as goal

-- The same fields behind what is the same give the same.
same_behind : {x y : SharedValue} → (param : ParamsValue) → x ≡ y → ext_mpart_of (param, x) ≡ ext_mpart_of (param, y)
same_behind param same = ap (λ v. ext_mpart_of (param, v)) same

pub returns : goal.returns
unfolding body_ext_mpart ext_mpart_seen shared_fields_seen
returns g c =
    let read = c.in_ok-p.ensures in
    let shared = c.in_ok-p-2.ensures in
    let param = rests_more c.in_ok-p-2.p shared.ahead.0 read.rests in
    record {
      steps = rw (read.steps, shared.steps) refl;
      ahead = (le_trans read.ahead.0 shared.ahead.0, shared.ahead.1);
      rests = record { same = λ n k alike. rw (param.same n k alike) (same_behind _ (shared.rests.same n k alike)) };
    }

pub returns-in_err-p : goal.returns-in_err-p
unfolding body_ext_mpart
returns-in_err-p g c =
    let r = err_from_is_err_and c.from_residual.result c.from_residual.ensures.1 in
    rw (r.1, r.2) (record { steps = stops_with _ _ _ c.in_err-p.ensures.steps (λ d h. rw h refl); ahead = tt; rests = tt })

pub returns-in_err-p-2 : goal.returns-in_err-p-2
unfolding body_ext_mpart
returns-in_err-p-2 g c =
    let r = err_from_is_err_and c.from_residual-in_err-p-2.result c.from_residual-in_err-p-2.ensures.1 in
    rw (r.1, r.2) (record { steps = stops_with _ _ _ c.in_err-p-2.ensures.steps (λ d h. rw (c.in_ok-p.ensures.steps, h) refl); ahead = tt; rests = tt })
