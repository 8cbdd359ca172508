use Rattle.std.proofs.Common.{refl}
use Rattle.imap_shared.proofs.types.uid_sets.UidSetMemberFromRangeInclusiveU32.from.Goals as goal

pub returns : goal.returns
returns c = refl
