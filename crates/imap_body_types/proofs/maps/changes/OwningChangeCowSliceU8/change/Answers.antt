use Rattle.std.proofs.Common.{rules}
use Rattle.imap_body_types.proofs.maps.changes.OwningChangeCowSliceU8.change.Goals as goal

pub returns-in-Owned : goal.returns-in-Owned
returns-in-Owned c = search rules depth 2
