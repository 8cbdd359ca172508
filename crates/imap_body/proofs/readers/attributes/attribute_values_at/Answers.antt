use Rattle.std.proofs.Common.{rules}
use Rattle.imap_body.proofs.readers.attributes.attribute_values_at.Goals as goal

pub returns-clause-steps : goal.returns-clause-steps
returns-clause-steps c = search rules depth 2

pub returns-clause-memory : goal.returns-clause-memory
returns-clause-memory c = search rules depth 2
