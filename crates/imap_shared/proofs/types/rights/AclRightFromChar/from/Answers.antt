use Rattle.std.proofs.Common.{refl}
use Rattle.imap_shared.proofs.types.rights.AclRightFromChar.from.Goals as goal

pub returns-in-l : goal.returns-in-l
returns-in-l c = rw (c.in-l.is) refl
