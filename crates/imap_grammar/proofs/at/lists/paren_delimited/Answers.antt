use Rattle.std.proofs.Common.{rules, refl}
use Rattle.imap_grammar.specs.contracts.at.lists.paren_delimited.F-Fn.{words}
use Rattle.imap_grammar.specs.Tags.{tag}
use Rattle.imap_grammar.specs.PositionLists.{called_at}
use Rattle.imap_grammar.proofs.Joins.{enclosed_yields, enclosed_unopened, enclosed_fails, enclosed_unclosed}
use Rattle.imap_grammar.proofs.PositionJoins.{stopped_at, told_at}
use Rattle.imap_grammar.proofs.at.lists.paren_delimited.Goals as goal

pub returns-in_err-p-clause-follows : goal.returns-in_err-p-clause-follows
returns-in_err-p-clause-follows g c = stopped_at c.in_err-p.field-0.0 (search rules) (enclosed_unopened (tag ")") (called_at c.args.m.now ((words g.row.O g.row.F g.F.Fn).post c.args.f)) _ _ c.in_err-p.ensures.steps)

pub returns-in_err-p-2-clause-follows : goal.returns-in_err-p-2-clause-follows
returns-in_err-p-2-clause-follows g c =
    stopped_at c.in_err-p-2.field-0.0 (search rules)
    (enclosed_fails (tag ")") (called_at c.args.m.now ((words g.row.O g.row.F g.F.Fn).post c.args.f)) _ _ _ _ c.in_ok-p.ensures.steps (c.in_ok-p.p, refl, c.in_ok-p.ensures.inside.1, c.in_err-p-2.ensures))

pub returns-in_err-p-3-clause-follows : goal.returns-in_err-p-3-clause-follows
returns-in_err-p-3-clause-follows g c =
    stopped_at c.in_err-p-3.field-0.0 (search rules)
    (enclosed_unclosed (tag ")") (called_at c.args.m.now ((words g.row.O g.row.F g.F.Fn).post c.args.f)) _ _ _ _ c.in_ok-p-2.item _ c.in_ok-p.ensures.steps (c.in_ok-p.p, c.in_ok-p-2.p, refl, c.in_ok-p.ensures.inside.1, refl, c.in_ok-p-2.ensures) c.in_err-p-3.ensures.steps)

pub returns-clause-follows : goal.returns-clause-follows
returns-clause-follows g c =
    told_at (enclosed_yields (tag ")") (called_at c.args.m.now ((words g.row.O g.row.F g.F.Fn).post c.args.f)) _ _ _ _ _ c.in_ok-p-2.item _ c.in_ok-p.ensures.steps (c.in_ok-p.p, c.in_ok-p-2.p, refl, c.in_ok-p.ensures.inside.1, refl, c.in_ok-p-2.ensures) c.in_ok-p-3.ensures.steps)
