use Rattle.std.proofs.Common.{rules, ◌∙◌, refl, sym, drop, inl, inr, arith}
use Rattle.imap_grammar.specs.contracts.at.lists.repeated.F-Fn.{words}
use Rattle.imap_grammar.specs.declared.answer.Err.TheVariants.{Failure}
use Rattle.imap_grammar.specs.PositionLists.{called_at}
use Rattle.imap_grammar.proofs.Joins.{tried_some, tried_none, tried_fault, cuts_begin, cuts_more}
use Rattle.imap_grammar.proofs.PositionJoins.{stopped_at, told_at, fault_at, found_at}
use Rattle.imap_grammar.proofs.at.lists.repeated.Goals as goal

pub returns-in_err-next-clause-follows : goal.returns-in_err-next-clause-follows
returns-in_err-next-clause-follows g c =
    let q = tried_fault _ _ (sym c.tried.ensures ∙ c.in_err-next.was) in
    stopped_at c.in_err-next.field-0.0 (search rules) (inl (c.loop-items.items.items, drop c.loop-items.q c.args.m.now, c.loop-items.invariant.begun, inl (fault_at _ c.one_item.ensures.follows q.0, q.1)))

pub returns-in_err-push-clause-follows : goal.returns-in_err-push-clause-follows
returns-in_err-push-clause-follows g c =
    let is = tried_some _ _ _ (sym c.tried.ensures ∙ c.in_ok-next.was) c.in-Some.is in
    let begun = cuts_begin (called_at c.args.m.now ((words g.row.O g.row.F g.F.Fn).post c.args.f)) _ _ _ _ _ c.loop-items.invariant.begun (found_at _ c.one_item.ensures.follows is) in
    stopped_at Failure (search rules) (inr (refl, begun.0, begun.1, begun.2))

pub loop-items-smaller : goal.loop-items-smaller
loop-items-smaller g c =
    let is = tried_some _ _ _ (sym c.tried.ensures ∙ c.in_ok-next.was) c.in-Some.is in
    let far = (rw is at c.one_item.ensures.onward) in
    omega (arith, far)

pub loop-items-preserved : goal.loop-items-preserved
loop-items-preserved g c =
    let is = tried_some _ _ _ (sym c.tried.ensures ∙ c.in_ok-next.was) c.in-Some.is in
    let far = (rw is at c.one_item.ensures.onward) in
    record {
      begun = rw c.in_ok-push.ensures.items (cuts_more (called_at c.args.m.now ((words g.row.O g.row.F g.F.Fn).post c.args.f)) _ _ _ _ _ c.loop-items.invariant.begun (found_at _ c.one_item.ensures.follows is));
      ahead = omega (arith, far, c.loop-items.invariant.ahead);
      within = far.1;
    }

pub returns-clause-follows : goal.returns-clause-follows
returns-clause-follows g c =
    let is = tried_none _ _ (sym c.tried.ensures ∙ c.in_ok-next.was) c.in_default.is in
    told_at (c.loop-items.invariant.begun, fault_at _ c.one_item.ensures.follows is)
