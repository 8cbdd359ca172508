use Rattle.imap_proto.proofs.Skipping.{past_begins_so}
use Rattle.imap_proto.proofs.laws.skipping.Goals as goal

pub returns-clause-past_begins_so : goal.returns-clause-past_begins_so
returns-clause-past_begins_so c = past_begins_so
