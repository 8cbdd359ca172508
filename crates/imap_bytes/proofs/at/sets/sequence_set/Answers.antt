use Rattle.std.proofs.Common.{refl}
use Rattle.imap_grammar.specs.declared.lists.Separator.TheVariants.{Comma}
use Rattle.imap_grammar.specs.Ranges.{range_of}
use Rattle.imap_grammar.proofs.Agreement.{answered_at}
use Rattle.imap_grammar.proofs.PositionUnder.{separated_at, separated_fails_at, advances_at, exact_at}
use Rattle.imap_bytes.specs.Numbers.{number, digits}
use Rattle.imap_bytes.specs.Sets.{sequence_set, sequence_item, sequence_range}
use Rattle.imap_bytes.proofs.at.sets.sequence_set.Goals as goal

pub separated-requires-clause-advances : goal.separated-requires-clause-advances
unfolding sequence_item sequence_range number digits
separated-requires-clause-advances c = advances_at range_of sequence_item (λ k r le h. exact_at _ _ _ r h.0) (λ k r le h. h.1) refl

pub returns-clause-steps : goal.returns-clause-steps
unfolding sequence_set
returns-clause-steps c = separated_at Comma range_of sequence_item c.separated.ensures.follows (λ k r le h. exact_at _ _ _ r h.0)

pub returns-clause-answer : goal.returns-clause-answer
returns-clause-answer c = answered_at _ _ _ _ _ (returns-clause-steps c)

pub returns-clause-memory : goal.returns-clause-memory
returns-clause-memory c = separated_fails_at Comma range_of sequence_item _ c.separated.ensures.follows (λ k r le h. h.0)
