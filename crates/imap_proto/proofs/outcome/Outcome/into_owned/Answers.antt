use Rattle.std.proofs.Common.{rules}
use Rattle.imap_proto.proofs.outcome.Outcome.into_owned.Goals as goal

pub returns-clause-same : goal.returns-clause-same
returns-clause-same c = search rules depth 2

pub returns-clause-memory : goal.returns-clause-memory
returns-clause-memory c = search rules depth 2
