use Rattle.std.proofs.Common.{refl}
use Rattle.imap_extensions.proofs.readers.ids.put_pair.Goals as goal

pub returns-in_default-None : goal.returns-in_default-None
returns-in_default-None c = rw (c.in_default-None.is-1) refl
