use Rattle.imap_grammar.proofs.PositionJoins.{called_told_at}
use Rattle.imap_grammar.proofs.at.lists.one_item.Goals as goal

pub returns-clause-follows : goal.returns-clause-follows
returns-clause-follows g c = called_told_at _ c.args.m.now c.args.p c.f.result c.requires.start c.f.ensures
