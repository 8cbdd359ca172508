use Rattle.std.proofs.Common.{◌≤◌, refl, sym}
use Rattle.std.proofs.Math.Nat.{le_trans}
use Rattle.imap_envelopes.proofs.Keeping.{kept_rests}
use Rattle.imap_bodystructure.proofs.Reading.{basic_rests, basic_reads}
use Rattle.imap_body_types.proofs.Places.{rests_more}
use Rattle.imap_bodystructure.proofs.at.bodies.body_type_basic.Goals as goal

pub returns-2-clause-puts : goal.returns-2-clause-puts
returns-2-clause-puts g c =
    let first = rw c.input.view_is at c.in_ok-p.ensures in
    let second = rw c.input.view_is at c.in_ok-p-2.ensures in
    let q = c.in-Ok-or_drop.field-0.0 in
    let e3 : c.in_ok-p-3.p ≤ q = c.in-Ok-or_drop.ensures.ahead.0 in
    let e2 : c.in_ok-p-2.p ≤ q = le_trans c.in_ok-p-3.ensures.ahead.0 e3 in
    let e1 : c.in_ok-p.p ≤ q = le_trans second.ahead.0 e2 in
    let ty = kept_rests _ _ _ _ _ _ c.in_ok-ty.ensures (rests_more q e1 first.rests) in
    let subtype = kept_rests _ _ _ _ _ _ c.in_ok-subtype.ensures (rests_more q e2 second.rests) in
    record {
      one = _;
      behind = rw c.push_reserved.ensures.items (rw c.in_ok-reserve.ensures.items refl);
      read = basic_reads _ _ _ _ _ _ _ _ _ _ _ (rw (sym c.in_ok-ty.ensures.is) at first.steps) (rw (sym c.in_ok-subtype.ensures.is) at second.steps) c.in_ok-p-3.ensures.steps c.in-Ok-or_drop.ensures.steps;
      rests = basic_rests _ _ q _ _ _ _ ty subtype (rests_more q e3 c.in_ok-p-3.ensures.rests) c.in-Ok-or_drop.ensures.rests;
    }
