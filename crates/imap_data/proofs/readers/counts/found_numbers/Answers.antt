use Rattle.std.proofs.Common.{rules}
use Rattle.imap_grammar.specs.Memory.{StartsWith}
use Rattle.imap_grammar.specs.Tags.{maybe_space}
use Rattle.imap_grammar.proofs.Memory.{part_failed, fault_wants}
use Rattle.imap_data.specs.Counts.{found_number, found_numbers}
use Rattle.imap_data.proofs.readers.counts.found_numbers.Goals as goal

pub returns-clause-steps : goal.returns-clause-steps
unfolding found_numbers
returns-clause-steps c = search rules depth 2

pub returns-in_err-rest-clause-memory : goal.returns-in_err-rest-clause-memory
returns-in_err-rest-clause-memory c = fault_wants (StartsWith found_number c.args.i.now) _ c.in_err-rest.field-0.0 _ (search rules) c.in_err-rest.ensures.memory (λ p. p)

pub returns-in_err-rest-2-clause-memory : goal.returns-in_err-rest-2-clause-memory
returns-in_err-rest-2-clause-memory c = part_failed _ maybe_space _ c.in_err-rest-2.field-0.0 _ (search rules) c.in_err-rest-2.ensures.steps
