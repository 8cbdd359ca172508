use Rattle.std.proofs.Common.{◌≤◌, refl}
use Rattle.std.proofs.Math.Nat.{le_trans}
use Rattle.imap_envelopes.proofs.Keeping.{kept_rests}
use Rattle.imap_bodystructure.proofs.Reading.{text_rests, text_reads}
use Rattle.imap_body_types.proofs.Places.{rests_more}
use Rattle.imap_bodystructure.proofs.at.bodies.body_type_text.Goals as goal

pub returns-3-clause-puts : goal.returns-3-clause-puts
returns-3-clause-puts g c =
    let word = rw c.input.view_is at c.in_ok-p.ensures in
    let second = rw c.input.view_is at c.in_ok-p-2.ensures in
    let lines = rw c.input.view_is at c.in-Ok-or_drop.ensures in
    let q = c.in-Ok-or_drop-2.field-0.0 in
    let e4 : c.in-Ok-or_drop.field-0.0 ≤ q = c.in-Ok-or_drop-2.ensures.ahead.0 in
    let e3 : c.in_ok-p-3.p ≤ q = le_trans lines.ahead.0 e4 in
    let e2 : c.in_ok-p-2.p ≤ q = le_trans c.in_ok-p-3.ensures.ahead.0 e3 in
    let ty = kept_rests _ _ _ q _ _ c.in_ok-ty.ensures (record { same = λ n k alike. refl }) in
    let subtype = kept_rests _ _ _ _ _ _ c.in_ok-subtype.ensures (rests_more q e2 second.rests) in
    record {
      one = _;
      behind = rw c.push_reserved.ensures.items (rw c.in_ok-reserve.ensures.items refl);
      read = text_reads _ _ _ _ _ _ _ _ _ _ _ _ _ _ c.in_ok-ty.ensures.is word.steps (rw c.in_ok-subtype.ensures.is second.steps) c.in_ok-p-3.ensures.steps lines.steps c.in-Ok-or_drop-2.ensures.steps;
      rests = text_rests _ _ q _ _ _ _ _ ty subtype (rests_more q e3 c.in_ok-p-3.ensures.rests) c.in-Ok-or_drop-2.ensures.rests;
    }
