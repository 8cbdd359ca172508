use Rattle.std.proofs.Common.{refl, ◌≤◌}
use Rattle.std.proofs.Math.Nat.{le_trans}
use Rattle.std.proofs.lemmas.Result.{err_from_is_err_and}
use Rattle.imap_grammar.proofs.Agreement.{stops, stops_with}
use Rattle.imap_envelopes.proofs.Keeping.{kept_rests}
use Rattle.imap_bodystructure.specs.Extensions.{shared_fields_seen}
use Rattle.imap_body_types.proofs.Places.{rests_more}
use Rattle.imap_bodystructure.proofs.at.extensions.shared_fields.Goals as goal

pub returns-4 : goal.returns-4
unfolding shared_fields_seen
returns-4 g c =
    let located = rw c.input.view_is at c.in-Ok-or_drop-2.ensures in
    let q = c.in-Ok-or_drop-3.field-0.0 in
    let e3 : c.in-Ok-or_drop-2.field-0.0 ≤ q = c.in-Ok-or_drop-3.ensures.ahead.0 in
    let e2 : c.in-Ok-or_drop.field-0.0 ≤ q = le_trans located.ahead.0 e3 in
    let e1 : c.in_ok-p.p ≤ q = le_trans c.in-Ok-or_drop.ensures.ahead.0 e2 in
    let disposition = rests_more q e1 c.in_ok-p.ensures.rests in
    let language = rests_more q e2 c.in-Ok-or_drop.ensures.rests in
    let location = kept_rests _ _ _ _ _ _ c.in_ok-location.ensures (rests_more q e3 located.rests) in
    record {
      steps = rw (c.in_ok-p.ensures.steps, c.in-Ok-or_drop.ensures.steps, located.steps, c.in-Ok-or_drop-3.ensures.steps, c.in_ok-location.ensures.is) refl;
      ahead = (le_trans c.in_ok-p.ensures.ahead.0 e1, c.in-Ok-or_drop-3.ensures.ahead.1);
      rests = record { same = λ n k alike. rw (disposition.same n k alike, language.same n k alike, location.same n k alike, c.in-Ok-or_drop-3.ensures.rests.same n k alike) refl };
    }

pub returns-in_err-p : goal.returns-in_err-p
returns-in_err-p g c =
    let r = err_from_is_err_and c.from_residual.result c.from_residual.ensures.1 in
    rw (r.1, r.2) (record { steps = stops_with _ _ _ c.in_err-p.ensures.steps (λ d h. rw (h) refl); ahead = tt; rests = tt })

pub returns : goal.returns
returns g c = record { steps = stops_with _ _ _ c.in-Err-or_drop.ensures.steps (λ d h. rw (c.in_ok-p.ensures.steps, h) refl); ahead = tt; rests = tt }

pub returns-2 : goal.returns-2
returns-2 g c = record { steps = stops _ _ (rw (c.in_ok-p.ensures.steps, c.in-Ok-or_drop.ensures.steps, ← c.input.view_is, c.in-Err-or_drop-2.ensures.steps) refl); ahead = tt; rests = tt }

pub returns-3 : goal.returns-3
returns-3 g c =
    let located = rw c.input.view_is at c.in-Ok-or_drop-2.ensures in
    record { steps = stops_with _ _ _ c.in-Err-or_drop-3.ensures.steps (λ d h. rw (c.in_ok-p.ensures.steps, c.in-Ok-or_drop.ensures.steps, located.steps, h) refl); ahead = tt; rests = tt }
