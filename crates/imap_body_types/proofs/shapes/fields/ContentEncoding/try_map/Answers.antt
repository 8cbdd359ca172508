use Rattle.std.proofs.Common.{refl}
use Rattle.imap_body_types.proofs.shapes.fields.ContentEncoding.try_map.Goals as goal

pub returns-in-EightBit-clause-changed : goal.returns-in-EightBit-clause-changed
returns-in-EightBit-clause-changed g c = rw c.in-EightBit.is refl
