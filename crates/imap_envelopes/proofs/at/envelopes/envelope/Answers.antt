use Rattle.std.proofs.Common.{refl, ap, arith, ◌≤◌, ◌≡◌}
use Rattle.std.specs.Prelude.{Option}
use Rattle.std.proofs.Math.Nat.{le_trans}
use Rattle.std.proofs.lemmas.Result.{err_from_is_err_and}
use Rattle.imap_grammar.specs.Text.{Text}
use Rattle.imap_grammar.proofs.Agreement.{stops, stops_with}
use Rattle.imap_envelopes.specs.Envelopes.{Addresses, envelope, envelope_of, last_fields_seen}
use Rattle.imap_body_types.specs.EnvelopeValues.{envelope_seen}
use Rattle.imap_body_types.proofs.Places.{rests_more}
use Rattle.imap_envelopes.proofs.at.envelopes.envelope.Goals as goal

-- What is the same in front of the same last fields is the same envelope.
same_behind : {x y : Addresses × (Addresses × (Addresses × (Option Text × Option Text)))} → (date subject : Option Text) → (from sender reply_to : Addresses)
    → x ≡ y → envelope_of (date, (subject, (from, (sender, (reply_to, x))))) ≡ envelope_of (date, (subject, (from, (sender, (reply_to, y)))))
same_behind date subject from sender reply_to same = ap (λ v. envelope_of (date, (subject, (from, (sender, (reply_to, v)))))) same

pub returns : goal.returns
unfolding envelope envelope_seen last_fields_seen
returns g c =
    let q = c.in_ok-p-7.p in
    let e6 : c.in_ok-p-6.p ≤ q = c.in_ok-p-7.ensures.ahead.0 in
    let e5 : c.in_ok-p-5.p ≤ q = le_trans c.in_ok-p-6.ensures.ahead.0 e6 in
    let e4 : c.in_ok-p-4.p ≤ q = le_trans c.in_ok-p-5.ensures.ahead.0 e5 in
    let e3 : c.in_ok-p-3.p ≤ q = le_trans c.in_ok-p-4.ensures.ahead.0 e4 in
    let e2 : c.in_ok-p-2.p ≤ q = le_trans c.in_ok-p-3.ensures.reads.ahead.0 e3 in
    let e1 : c.in_ok-p.p ≤ q = le_trans c.in_ok-p-2.ensures.reads.ahead.0 e2 in
    let date = rests_more q e2 c.in_ok-p-2.ensures.reads.rests in
    let subject = rests_more q e3 c.in_ok-p-3.ensures.reads.rests in
    let from = rests_more q e4 c.in_ok-p-4.ensures.rests in
    let sender = rests_more q e5 c.in_ok-p-5.ensures.rests in
    let reply_to = rests_more q e6 c.in_ok-p-6.ensures.rests in
    let last = c.in_ok-p-7.ensures.rests in
    record {
      steps = rw (← c.input.view_is, c.in_ok-p.ensures.steps, c.in_ok-p-2.ensures.reads.steps, c.in_ok-p-3.ensures.reads.steps, c.input.view_is, c.in_ok-p-4.ensures.steps, c.in_ok-p-5.ensures.steps, c.in_ok-p-6.ensures.steps, c.in_ok-p-7.ensures.steps) refl;
      ahead = (omega (arith, c.in_ok-p.ensures.inside, e1), c.in_ok-p-7.ensures.ahead.1);
      rests = record { same = λ n k alike. rw (date.same n k alike, subject.same n k alike, from.same n k alike, sender.same n k alike, reply_to.same n k alike) (same_behind _ _ _ _ _ (last.same n k alike)) };
    }

pub returns-in_err-p : goal.returns-in_err-p
unfolding envelope
returns-in_err-p g c =
    let r = err_from_is_err_and c.from_residual.result c.from_residual.ensures.1 in
    rw (r.1, r.2) (record { steps = stops _ _ (rw (← c.input.view_is, c.in_err-p.ensures.steps) refl); ahead = tt; rests = tt })

pub returns-in_err-p-2 : goal.returns-in_err-p-2
unfolding envelope
returns-in_err-p-2 g c =
    let r = err_from_is_err_and c.from_residual-in_err-p-2.result c.from_residual-in_err-p-2.ensures.1 in
    rw (r.1, r.2) (record { steps = stops _ _ (rw (← c.input.view_is, c.in_ok-p.ensures.steps, c.in_err-p-2.ensures.reads.steps) refl); ahead = tt; rests = tt })

pub returns-in_err-p-3 : goal.returns-in_err-p-3
unfolding envelope
returns-in_err-p-3 g c =
    let r = err_from_is_err_and c.from_residual-in_err-p-3.result c.from_residual-in_err-p-3.ensures.1 in
    rw (r.1, r.2) (record { steps = stops _ _ (rw (← c.input.view_is, c.in_ok-p.ensures.steps, c.in_ok-p-2.ensures.reads.steps, c.in_err-p-3.ensures.reads.steps) refl); ahead = tt; rests = tt })

pub returns-in_err-p-4 : goal.returns-in_err-p-4
unfolding envelope
returns-in_err-p-4 g c =
    let r = err_from_is_err_and c.from_residual-in_err-p-4.result c.from_residual-in_err-p-4.ensures.1 in
    rw (r.1, r.2) (record { steps = stops_with _ _ _ c.in_err-p-4.ensures.steps (λ d h. rw (← c.input.view_is, c.in_ok-p.ensures.steps, c.in_ok-p-2.ensures.reads.steps, c.in_ok-p-3.ensures.reads.steps, c.input.view_is, h) refl); ahead = tt; rests = tt })

pub returns-in_err-p-5 : goal.returns-in_err-p-5
unfolding envelope
returns-in_err-p-5 g c =
    let r = err_from_is_err_and c.from_residual-in_err-p-5.result c.from_residual-in_err-p-5.ensures.1 in
    rw (r.1, r.2) (record { steps = stops_with _ _ _ c.in_err-p-5.ensures.steps (λ d h. rw (← c.input.view_is, c.in_ok-p.ensures.steps, c.in_ok-p-2.ensures.reads.steps, c.in_ok-p-3.ensures.reads.steps, c.input.view_is, c.in_ok-p-4.ensures.steps, h) refl); ahead = tt; rests = tt })

pub returns-in_err-p-6 : goal.returns-in_err-p-6
unfolding envelope
returns-in_err-p-6 g c =
    let r = err_from_is_err_and c.from_residual-in_err-p-6.result c.from_residual-in_err-p-6.ensures.1 in
    rw (r.1, r.2) (record { steps = stops_with _ _ _ c.in_err-p-6.ensures.steps (λ d h. rw (← c.input.view_is, c.in_ok-p.ensures.steps, c.in_ok-p-2.ensures.reads.steps, c.in_ok-p-3.ensures.reads.steps, c.input.view_is, c.in_ok-p-4.ensures.steps, c.in_ok-p-5.ensures.steps, h) refl); ahead = tt; rests = tt })

pub returns-in_err-p-7 : goal.returns-in_err-p-7
unfolding envelope
returns-in_err-p-7 g c =
    let r = err_from_is_err_and c.from_residual-in_err-p-7.result c.from_residual-in_err-p-7.ensures.1 in
    rw (r.1, r.2) (record { steps = stops_with _ _ _ c.in_err-p-7.ensures.steps (λ d h. rw (← c.input.view_is, c.in_ok-p.ensures.steps, c.in_ok-p-2.ensures.reads.steps, c.in_ok-p-3.ensures.reads.steps, c.input.view_is, c.in_ok-p-4.ensures.steps, c.in_ok-p-5.ensures.steps, c.in_ok-p-6.ensures.steps, h) refl); ahead = tt; rests = tt })
