use Rattle.imap_sections.proofs.PartNumbers.{visited_at, in_order, crowded_by_length, too_many_at}
use Rattle.imap_sections.proofs.laws.part_numbers.Goals as goal

pub returns-clause-visited : goal.returns-clause-visited
returns-clause-visited c = visited_at

pub returns-clause-order : goal.returns-clause-order
returns-clause-order c = in_order

pub returns-clause-is_crowded : goal.returns-clause-is_crowded
returns-clause-is_crowded c = crowded_by_length

pub returns-clause-too_many : goal.returns-clause-too_many
returns-clause-too_many c = too_many_at
