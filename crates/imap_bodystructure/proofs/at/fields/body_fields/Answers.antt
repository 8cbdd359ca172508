use Rattle.std.proofs.Common.{refl, ◌≤◌}
use Rattle.std.proofs.Math.Nat.{le_trans}
use Rattle.imap_envelopes.proofs.Keeping.{kept_rests}
use Rattle.imap_body_types.specs.FieldValues.{fields_seen}
use Rattle.imap_bodystructure.specs.Fields.{body_fields}
use Rattle.imap_body_types.proofs.Places.{rests_more}
use Rattle.imap_bodystructure.proofs.at.fields.body_fields.Goals as goal

pub returns : goal.returns
unfolding body_fields fields_seen
returns g c =
    let q = c.in_ok-p-5.p in
    let e4 : c.in_ok-p-4.p ≤ q = c.in_ok-p-5.ensures.ahead.0 in
    let e3 : c.in_ok-p-3.p ≤ q = le_trans c.in_ok-p-4.ensures.ahead.0 e4 in
    let e2 : c.in_ok-p-2.p ≤ q = le_trans c.in_ok-p-3.ensures.ahead.0 e3 in
    let e1 : c.in_ok-p.p ≤ q = le_trans c.in_ok-p-2.ensures.ahead.0 e2 in
    let param = rests_more q e1 c.in_ok-p.ensures.rests in
    let id = kept_rests _ _ _ _ _ _ c.in_ok-kept_text.ensures (rests_more q e2 c.in_ok-p-2.ensures.rests) in
    let description = kept_rests _ _ _ _ _ _ c.in_ok-kept_text-2.ensures (rests_more q e3 c.in_ok-p-3.ensures.rests) in
    let transfer_encoding = kept_rests _ _ _ _ _ _ c.in_ok-kept_encoding.ensures (rests_more q e4 c.in_ok-p-4.ensures.rests) in
    record {
      steps = rw (c.in_ok-p.ensures.steps, ← c.input.view_is, c.in_ok-p-2.ensures.steps, c.in_ok-p-3.ensures.steps, c.in_ok-p-4.ensures.steps, c.in_ok-p-5.ensures.steps, c.input.view_is, c.in_ok-kept_text.ensures.is, c.in_ok-kept_text-2.ensures.is, c.in_ok-kept_encoding.ensures.is) refl;
      ahead = (le_trans c.in_ok-p.ensures.ahead.0 e1, rw c.input.view_is at c.in_ok-p-5.ensures.ahead.1);
      rests = record { same = λ n k alike. rw (param.same n k alike, id.same n k alike, description.same n k alike, transfer_encoding.same n k alike) refl };
    }
