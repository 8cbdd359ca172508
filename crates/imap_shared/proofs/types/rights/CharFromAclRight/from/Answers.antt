use Rattle.std.proofs.Common.{refl}
use Rattle.imap_shared.proofs.types.rights.CharFromAclRight.from.Goals as goal

pub returns-in-Custom : goal.returns-in-Custom
returns-in-Custom c = rw (c.in-Custom.is) refl
