use Rattle.std.proofs.Common.{drop, refl, sym, arith, ◌∙◌}
use Rattle.std.proofs.lemmas.Result.{err_from_is_err_and}
use Rattle.imap_grammar.proofs.Agreement.{stops, stops_with}
use Rattle.imap_body_types.proofs.Places.{rests_more}
use Rattle.imap_envelopes.proofs.FirstBytes.{listed, unlisted}
use Rattle.imap_envelopes.proofs.at.envelopes.addresses.Goals as goal

-- ---- no list

pub returns-in_err-q : goal.returns-in_err-q
returns-in_err-q g c =
    let r = err_from_is_err_and c.from_residual.result c.from_residual.ensures.1 in
    let none = unlisted (drop c.args.p c.input.inside.message.now) (sym c.list_opens.ensures ∙ c.if-not-list_opens.true) in
    rw (r.1, r.2, ← c.input.view_is) (record { steps = stops _ _ (none ∙ rw (c.in_err-q.ensures.steps) refl); ahead = tt; rests = tt })

pub returns-then-not-list_opens : goal.returns-then-not-list_opens
returns-then-not-list_opens g c =
    let none = unlisted (drop c.args.p c.input.inside.message.now) (sym c.list_opens.ensures ∙ c.if-not-list_opens.true) in
    rw (← c.input.view_is) (record {
      steps = none ∙ rw (c.in_ok-q.ensures.steps) refl;
      ahead = (omega (arith, c.in_ok-q.ensures.inside), c.in_ok-q.ensures.inside.1);
      rests = record { same = λ n k alike. refl };
    })

-- ---- a list

pub returns-in_err-q-2 : goal.returns-in_err-q-2
returns-in_err-q-2 g c =
    let r = err_from_is_err_and c.from_residual-in_err-q-2.result c.from_residual-in_err-q-2.ensures.1 in
    let some = listed (drop c.args.p c.input.inside.message.now) (sym c.list_opens.ensures ∙ c.if-not-list_opens.false) in
    rw (r.1, r.2, ← c.input.view_is) (record { steps = stops _ _ (some ∙ rw (c.in_err-q-2.ensures.steps) refl); ahead = tt; rests = tt })

pub returns-in_err-q-3 : goal.returns-in_err-q-3
returns-in_err-q-3 g c =
    let r = err_from_is_err_and c.from_residual-in_err-q-3.result c.from_residual-in_err-q-3.ensures.1 in
    let some = listed (drop c.args.p c.input.inside.message.now) (sym c.list_opens.ensures ∙ c.if-not-list_opens.false) in
    let list = rw (← c.input.view_is) at c.in_err-q-3.ensures in
    rw (r.1, r.2, ← c.input.view_is) (record { steps = stops_with _ _ _ list.steps (λ d h. some ∙ rw (c.in_ok-q-2.ensures.steps, h) refl); ahead = tt; rests = tt })

pub returns-in_err-q-4 : goal.returns-in_err-q-4
returns-in_err-q-4 g c =
    let r = err_from_is_err_and c.from_residual-in_err-q-4.result c.from_residual-in_err-q-4.ensures.1 in
    let some = listed (drop c.args.p c.input.inside.message.now) (sym c.list_opens.ensures ∙ c.if-not-list_opens.false) in
    let list = rw (← c.input.view_is) at c.in_ok-q-3.ensures in
    rw (r.1, r.2, ← c.input.view_is) (record { steps = stops _ _ (some ∙ rw (c.in_ok-q-2.ensures.steps, list.steps, c.in_err-q-4.ensures.steps) refl); ahead = tt; rests = tt })

pub returns : goal.returns
returns g c =
    let some = listed (drop c.args.p c.input.inside.message.now) (sym c.list_opens.ensures ∙ c.if-not-list_opens.false) in
    let list = rw (← c.input.view_is) at c.in_ok-q-3.ensures in
    let behind = c.in_ok-q-4.ensures in
    let addresses = rests_more _ (omega (arith, behind.inside)) list.rests in
    rw (← c.input.view_is) (record {
      steps = some ∙ rw (c.in_ok-q-2.ensures.steps, list.steps, behind.steps) refl;
      ahead = (omega (arith, c.in_ok-q-2.ensures.inside, list.ahead, behind.inside), behind.inside.1);
      rests = record { same = λ n k alike. rw (addresses.same n k alike) refl };
    })
