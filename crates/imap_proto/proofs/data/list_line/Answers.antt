use Rattle.std.proofs.Common.{rules, inl}
use Rattle.imap_proto.specs.Lines.{list_line}
use Rattle.imap_proto.proofs.Memory.{list_failed}
use Rattle.imap_proto.proofs.data.list_line.Goals as goal

pub returns-in-Err : goal.returns-in-Err
unfolding list_line
returns-in-Err c = record { steps = search rules; failure = λ q. inl ((rw c.in-Err.is at c.list_or_lsub.ensures.memory) q); memory = list_failed _ c.in-Err.e }
