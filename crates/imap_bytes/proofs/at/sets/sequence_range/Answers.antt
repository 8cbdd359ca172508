use Rattle.std.proofs.Common.{refl}
use Rattle.imap_grammar.proofs.Agreement.{exact_answer_at}
use Rattle.imap_bytes.specs.Sets.{sequence_range}
use Rattle.imap_bytes.proofs.at.sets.sequence_range.Goals as goal

pub returns-clause-steps : goal.returns-clause-steps
unfolding sequence_range
returns-clause-steps c =
    rw (c.in_ok-p.ensures.steps, c.in_ok-p-2.ensures.steps, c.in_ok-p-3.ensures.steps, c.new.ensures.start, c.new.ensures.end, c.new.ensures.exhausted) refl

pub returns-clause-answer : goal.returns-clause-answer
returns-clause-answer c = exact_answer_at _ _ _ _ _ (returns-clause-steps c)
