use Rattle.std.proofs.Common.{rules}
use Rattle.imap_proto.specs.Lines.{mailbox_line}
use Rattle.imap_proto.proofs.Memory.{mailbox_failed}
use Rattle.imap_proto.proofs.data.mailbox_line.Goals as goal

pub returns-in-Err : goal.returns-in-Err
unfolding mailbox_line
returns-in-Err c = record { steps = search rules; failure = λ q. (rw c.in-Err.is at c.mailbox_datum.ensures.worded) q; memory = mailbox_failed _ c.in-Err.e c.mailbox_datum.result c.in-Err.is c.mailbox_datum.ensures.memory }
