use Rattle.std.proofs.Common.{rules}
use Rattle.imap_proto.specs.Lines.{id_line}
use Rattle.imap_proto.proofs.Memory.{id_failed}
use Rattle.imap_proto.proofs.data.id_line.Goals as goal

pub returns-in-Err : goal.returns-in-Err
unfolding id_line
returns-in-Err c = record { steps = search rules; failure = rw c.in-Err.is at c.id.ensures.worded; memory = id_failed _ c.in-Err.e c.id.result c.in-Err.is c.id.ensures.memory }
