use Rattle.std.proofs.Common.{rules, inl}
use Rattle.imap_grammar.specs.contracts.at.lists.parenthesized_list.F-Fn.{words}
use Rattle.imap_grammar.specs.Rule.{meaning, opt, ◌⨾◌}
use Rattle.imap_grammar.specs.Tags.{tag, sp}
use Rattle.imap_grammar.specs.Lists.{list0_means}
use Rattle.imap_grammar.specs.PositionLists.{called_at}
use Rattle.imap_grammar.proofs.Joins.{enclosed_yields, enclosed_unopened, enclosed_stops, enclosed_unclosed, both_read, first_failed, second_failed}
use Rattle.imap_grammar.proofs.PositionJoins.{stopped_at, told_at, fault_at}
use Rattle.imap_grammar.proofs.at.lists.parenthesized_list.Goals as goal

pub returns-in_err-p-clause-follows : goal.returns-in_err-p-clause-follows
returns-in_err-p-clause-follows g c = stopped_at c.in_err-p.field-0.0 (search rules) (inl (enclosed_unopened (opt sp ⨾ tag ")") (list0_means (meaning sp) (called_at c.args.m.now ((words g.row.O g.row.F g.F.Fn).post c.args.f))) _ _ c.in_err-p.ensures.steps))

pub returns-in_err-p-2-clause-follows : goal.returns-in_err-p-2-clause-follows
returns-in_err-p-2-clause-follows g c =
    stopped_at c.in_err-p-2.field-0.0 (search rules)
    (enclosed_stops (opt sp ⨾ tag ")") (called_at c.args.m.now ((words g.row.O g.row.F g.F.Fn).post c.args.f)) (list0_means (meaning sp) (called_at c.args.m.now ((words g.row.O g.row.F g.F.Fn).post c.args.f))) _ _ _ _ c.in_ok-p.ensures.steps (fault_at _ c.maybe_separated.ensures.follows c.in_err-p-2.was))

pub returns-in_err-p-3-clause-follows : goal.returns-in_err-p-3-clause-follows
returns-in_err-p-3-clause-follows g c =
    stopped_at c.in_err-p-3.field-0.0 (search rules)
    (inl (enclosed_unclosed (opt sp ⨾ tag ")") (list0_means (meaning sp) (called_at c.args.m.now ((words g.row.O g.row.F g.F.Fn).post c.args.f))) _ _ _ _ _ _ c.in_ok-p.ensures.steps c.in_ok-p-2.ensures.follows.met (first_failed (opt sp) (tag ")") _ _ c.in_err-p-3.ensures.steps)))

pub returns-in_err-p-4-clause-follows : goal.returns-in_err-p-4-clause-follows
returns-in_err-p-4-clause-follows g c =
    stopped_at c.in_err-p-4.field-0.0 (search rules)
    (inl (enclosed_unclosed (opt sp ⨾ tag ")") (list0_means (meaning sp) (called_at c.args.m.now ((words g.row.O g.row.F g.F.Fn).post c.args.f))) _ _ _ _ _ _ c.in_ok-p.ensures.steps c.in_ok-p-2.ensures.follows.met (second_failed (opt sp) (tag ")") _ _ _ _ c.in_ok-p-3.ensures.steps c.in_err-p-4.ensures.steps)))

pub returns-clause-follows : goal.returns-clause-follows
returns-clause-follows g c =
    told_at (enclosed_yields (opt sp ⨾ tag ")") (list0_means (meaning sp) (called_at c.args.m.now ((words g.row.O g.row.F g.F.Fn).post c.args.f))) _ _ _ _ _ _ _ c.in_ok-p.ensures.steps c.in_ok-p-2.ensures.follows.met (both_read (opt sp) (tag ")") _ _ _ _ _ c.in_ok-p-3.ensures.steps c.in_ok-p-4.ensures.steps))
