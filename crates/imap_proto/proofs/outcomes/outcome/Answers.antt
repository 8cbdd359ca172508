use Rattle.std.proofs.Common.{rules}
use Rattle.imap_proto.proofs.FirstBytes.{no_code}
use Rattle.imap_proto.proofs.Memory.{plain_wants}
use Rattle.imap_proto.proofs.outcomes.outcome.Goals as goal

pub returns-in-Some-clause-failure : goal.returns-in-Some-clause-failure
returns-in-Some-clause-failure c = plain_wants _ c.plain_outcome.result (no_code _ (search rules) (search rules)) c.plain_outcome.ensures.failure
