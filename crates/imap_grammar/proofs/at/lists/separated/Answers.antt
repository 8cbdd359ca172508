use Rattle.std.proofs.Common.{rules, drop, ◌∙◌, refl, sym, inl, inr, arith}
use Rattle.imap_grammar.specs.declared.answer.Err.TheVariants.{Failure}
use Rattle.imap_grammar.proofs.Joins.{tried_some, tried_none, tried_fault, begun_more, begun_ends, begun_stops}
use Rattle.imap_grammar.proofs.PositionJoins.{stopped_at, told_at, fault_at, found_at}
use Rattle.imap_grammar.proofs.at.lists.separated.Goals as goal

pub returns-in_err-items-clause-follows : goal.returns-in_err-items-clause-follows
returns-in_err-items-clause-follows g c = stopped_at Failure (search rules) (inr (refl, c.in_ok-q.first, drop c.in_ok-q.q c.args.m.now, (c.args.p, c.in_ok-q.q, refl, c.requires.start, refl, c.in_ok-q.ensures)))

pub returns-in_err-next-clause-follows : goal.returns-in_err-next-clause-follows
returns-in_err-next-clause-follows g c =
    let q = tried_fault _ _ (sym c.tried.ensures ∙ c.in_err-next.was) in
    stopped_at c.in_err-next.field-0.0 (search rules) (inl (begun_stops _ _ _ _ _ _ c.loop-items.invariant.begun (fault_at _ c.next_item.ensures.follows q.0) q.1))

pub loop-items-smaller : goal.loop-items-smaller
loop-items-smaller g c =
    let is = tried_some _ _ _ (sym c.tried.ensures ∙ c.in_ok-next.was) c.in-Some.is in
    let far = (rw is at c.next_item.ensures.onward) in
    omega (arith, far)

pub loop-items-preserved : goal.loop-items-preserved
loop-items-preserved g c =
    let is = tried_some _ _ _ (sym c.tried.ensures ∙ c.in_ok-next.was) c.in-Some.is in
    let far = (rw is at c.next_item.ensures.onward) in
    record {
      begun = rw c.in_ok-push.ensures.items (begun_more _ _ _ _ _ _ _ c.loop-items.invariant.begun (found_at _ c.next_item.ensures.follows is));
      ahead = omega (arith, far, c.loop-items.invariant.ahead);
      within = far.1;
    }

pub returns-clause-follows : goal.returns-clause-follows
returns-clause-follows g c =
    let is = tried_none _ _ (sym c.tried.ensures ∙ c.in_ok-next.was) c.in_default.is in
    told_at (begun_ends _ _ _ _ _ c.loop-items.invariant.begun (fault_at _ c.next_item.ensures.follows is))
