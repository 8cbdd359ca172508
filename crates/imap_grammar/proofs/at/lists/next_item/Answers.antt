use Rattle.std.proofs.Common.{rules, inl}
use Rattle.imap_grammar.specs.Rule.{meaning}
use Rattle.imap_grammar.specs.Lists.{separator}
use Rattle.imap_grammar.proofs.Agreement.{reads, fails}
use Rattle.imap_grammar.proofs.PositionJoins.{stopped_at, behind_told_at}
use Rattle.imap_grammar.proofs.at.lists.next_item.Goals as goal

pub returns-in_err-q-clause-follows : goal.returns-in_err-q-clause-follows
returns-in_err-q-clause-follows g c = stopped_at c.in_err-q.field-0.0 (search rules) (inl (fails (separator c.args.between) _ _ c.in_err-q.ensures.steps))

pub returns-clause-follows : goal.returns-clause-follows
returns-clause-follows g c =
    behind_told_at (meaning (separator c.args.between)) _ c.args.m.now c.args.p c.in_ok-q.q _ c.f.result
    (reads (separator c.args.between) _ _ _ c.in_ok-q.ensures.steps) c.in_ok-q.ensures.ahead.1 c.f.ensures
