use Rattle.std.proofs.Common.{rules}
use Rattle.imap_shared.proofs.types.uid_sets.UidSetMemberFromU32.from.Goals as goal

pub returns : goal.returns
returns c = search rules depth 2
