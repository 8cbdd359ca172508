use Rattle.std.proofs.Common.{refl, sym, subst, ◌∙◌, inl, rules}
use Rattle.imap_grammar.specs.contracts.at.lists.opt_opt.F-Fn.{words}
use Rattle.imap_grammar.proofs.Joins.{tried_some}
use Rattle.imap_grammar.proofs.PositionJoins.{told_at}
use Rattle.imap_grammar.proofs.at.lists.opt_opt.Goals as goal

pub returns-in-Some-clause-follows : goal.returns-in-Some-clause-follows
returns-in-Some-clause-follows g c =
    let is = tried_some _ _ _ (sym c.tried.ensures ∙ c.in_ok-found.was) c.in-Some.is in
    told_at (_, inl (c.in-Some.found.1, (c.args.p, c.in-Some.found.0, refl, c.requires.start, refl, subst ((words g.row.O g.row.F g.F.Fn).post c.args.f c.args.p) is c.f.ensures), refl), refl)

pub returns-clause-follows : goal.returns-clause-follows
returns-clause-follows c = search rules depth 2
