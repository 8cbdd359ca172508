use Rattle.std.proofs.Common.{refl, arith, ◌≤◌}
use Rattle.std.proofs.Math.Nat.{le_trans}
use Rattle.std.proofs.lemmas.Result.{err_from_is_err_and}
use Rattle.imap_grammar.proofs.Agreement.{stops, stops_with}
use Rattle.imap_envelopes.specs.Envelopes.{last_fields_seen}
use Rattle.imap_body_types.proofs.Places.{rests_more}
use Rattle.imap_envelopes.proofs.at.envelopes.last_fields.Goals as goal

pub returns : goal.returns
unfolding last_fields_seen
returns g c =
    let q = c.in_ok-p-6.p in
    let e5 : c.in_ok-p-5.p ≤ q = omega (arith, c.in_ok-p-6.ensures.inside) in
    let e4 : c.in_ok-p-4.p ≤ q = le_trans c.in_ok-p-5.ensures.reads.ahead.0 e5 in
    let e3 : c.in_ok-p-3.p ≤ q = le_trans c.in_ok-p-4.ensures.reads.ahead.0 e4 in
    let e2 : c.in_ok-p-2.p ≤ q = le_trans c.in_ok-p-3.ensures.ahead.0 e3 in
    let e1 : c.in_ok-p.p ≤ q = le_trans c.in_ok-p-2.ensures.ahead.0 e2 in
    let to = rests_more q e1 c.in_ok-p.ensures.rests in
    let copies = rests_more q e2 c.in_ok-p-2.ensures.rests in
    let bcc = rests_more q e3 c.in_ok-p-3.ensures.rests in
    let in_reply_to = rests_more q e4 c.in_ok-p-4.ensures.reads.rests in
    let message_id = rests_more q e5 c.in_ok-p-5.ensures.reads.rests in
    record {
      steps = rw (c.in_ok-p.ensures.steps, c.in_ok-p-2.ensures.steps, c.in_ok-p-3.ensures.steps, ← c.input.view_is, c.in_ok-p-4.ensures.reads.steps, c.in_ok-p-5.ensures.reads.steps, c.in_ok-p-6.ensures.steps) refl;
      ahead = (le_trans c.in_ok-p.ensures.ahead.0 e1, rw c.input.view_is at c.in_ok-p-6.ensures.inside.1);
      rests = record { same = λ n k alike. rw (to.same n k alike, copies.same n k alike, bcc.same n k alike, in_reply_to.same n k alike, message_id.same n k alike) refl };
    }

pub returns-in_err-p : goal.returns-in_err-p
returns-in_err-p g c =
    let r = err_from_is_err_and c.from_residual.result c.from_residual.ensures.1 in
    rw (r.1, r.2) (record { steps = stops_with _ _ _ c.in_err-p.ensures.steps (λ d h. rw (h) refl); ahead = tt; rests = tt })

pub returns-in_err-p-2 : goal.returns-in_err-p-2
returns-in_err-p-2 g c =
    let r = err_from_is_err_and c.from_residual-in_err-p-2.result c.from_residual-in_err-p-2.ensures.1 in
    rw (r.1, r.2) (record { steps = stops_with _ _ _ c.in_err-p-2.ensures.steps (λ d h. rw (c.in_ok-p.ensures.steps, h) refl); ahead = tt; rests = tt })

pub returns-in_err-p-3 : goal.returns-in_err-p-3
returns-in_err-p-3 g c =
    let r = err_from_is_err_and c.from_residual-in_err-p-3.result c.from_residual-in_err-p-3.ensures.1 in
    rw (r.1, r.2) (record { steps = stops_with _ _ _ c.in_err-p-3.ensures.steps (λ d h. rw (c.in_ok-p.ensures.steps, c.in_ok-p-2.ensures.steps, h) refl); ahead = tt; rests = tt })

pub returns-in_err-p-4 : goal.returns-in_err-p-4
returns-in_err-p-4 g c =
    let r = err_from_is_err_and c.from_residual-in_err-p-4.result c.from_residual-in_err-p-4.ensures.1 in
    rw (r.1, r.2) (record { steps = stops _ _ (rw (c.in_ok-p.ensures.steps, c.in_ok-p-2.ensures.steps, c.in_ok-p-3.ensures.steps, ← c.input.view_is, c.in_err-p-4.ensures.reads.steps) refl); ahead = tt; rests = tt })

pub returns-in_err-p-5 : goal.returns-in_err-p-5
returns-in_err-p-5 g c =
    let r = err_from_is_err_and c.from_residual-in_err-p-5.result c.from_residual-in_err-p-5.ensures.1 in
    rw (r.1, r.2) (record { steps = stops _ _ (rw (c.in_ok-p.ensures.steps, c.in_ok-p-2.ensures.steps, c.in_ok-p-3.ensures.steps, ← c.input.view_is, c.in_ok-p-4.ensures.reads.steps, c.in_err-p-5.ensures.reads.steps) refl); ahead = tt; rests = tt })

pub returns-in_err-p-6 : goal.returns-in_err-p-6
returns-in_err-p-6 g c =
    let r = err_from_is_err_and c.from_residual-in_err-p-6.result c.from_residual-in_err-p-6.ensures.1 in
    rw (r.1, r.2) (record { steps = stops _ _ (rw (c.in_ok-p.ensures.steps, c.in_ok-p-2.ensures.steps, c.in_ok-p-3.ensures.steps, ← c.input.view_is, c.in_ok-p-4.ensures.reads.steps, c.in_ok-p-5.ensures.reads.steps, c.in_err-p-6.ensures.steps) refl); ahead = tt; rests = tt })
