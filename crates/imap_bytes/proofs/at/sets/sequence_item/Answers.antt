use Rattle.std.proofs.Common.{drop, sym, ◌∙◌}
use Rattle.std.proofs.lemmas.Result.{err_from_is_err_and}
use Rattle.imap_grammar.proofs.Memory.{exactly_never_at}
use Rattle.imap_bytes.specs.Sets.{sequence_item}
use Rattle.imap_grammar.proofs.Joins.{tried_some, tried_none, tried_fault}
use Rattle.imap_bytes.proofs.Ranges.{item_fault, item_range, item_alone, item_stops}
use Rattle.imap_bytes.proofs.at.sets.sequence_item.Goals as goal

pub returns-in_err-p-clause-steps : goal.returns-in_err-p-clause-steps
returns-in_err-p-clause-steps c =
    let p = err_from_is_err_and c.from_residual.result c.from_residual.ensures.1 in
    rw (p.1, p.2) (item_fault (drop c.args.p c.args.m.now) c.in_err-p.field-0.0 c.in_err-p.ensures.steps)

pub returns-in_err-q-clause-steps : goal.returns-in_err-q-clause-steps
returns-in_err-q-clause-steps c =
    let p = err_from_is_err_and c.from_residual-in_err-q.result c.from_residual-in_err-q.ensures.1 in
    let q = tried_fault _ _ (sym c.tried.ensures ∙ c.in_err-q.was) in
    rw (p.1, p.2) (item_stops _ _ _ c.in_err-q.field-0.0 c.in_ok-p.ensures.steps (rw q.0 at c.range_end.ensures.steps) q.1)

pub returns-in-Some-clause-steps : goal.returns-in-Some-clause-steps
returns-in-Some-clause-steps c =
    let is = tried_some _ _ _ (sym c.tried.ensures ∙ c.in_ok-q.was) c.in-Some.is in
    rw (c.new.ensures.start, c.new.ensures.end, c.new.ensures.exhausted) (item_range _ _ _ _ _ c.in_ok-p.ensures.steps (rw is at c.range_end.ensures.steps))

pub returns-in-None-clause-steps : goal.returns-in-None-clause-steps
returns-in-None-clause-steps c =
    let is = tried_none _ _ (sym c.tried.ensures ∙ c.in_ok-q.was) c.in-None.is in
    rw (c.new-in-None.ensures.start, c.new-in-None.ensures.end, c.new-in-None.ensures.exhausted) (item_alone _ _ _ c.in_ok-p.ensures.steps (rw is at c.range_end.ensures.steps))

pub returns-in_err-q-clause-no_failure : goal.returns-in_err-q-clause-no_failure
returns-in_err-q-clause-no_failure c = exactly_never_at _ sequence_item c.args.m.now c.args.p _ (returns-in_err-q-clause-steps c)
