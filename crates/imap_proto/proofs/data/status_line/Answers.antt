use Rattle.std.proofs.Common.{rules}
use Rattle.imap_proto.specs.Lines.{status_line, status_data}
use Rattle.imap_proto.proofs.Memory.{failed, status_wants, status_failed}
use Rattle.imap_proto.proofs.data.status_line.Goals as goal

pub returns-in-Err : goal.returns-in-Err
unfolding status_line status_data
returns-in-Err c =
    record { steps = search rules; failure = status_wants _ _ c.in_ok-rest.status (failed c.in-Err.e) c.in_ok-rest.ensures.steps (rw c.in-Err.is at c.spaced_outcome.ensures.failure); memory = status_failed _ _ c.in_ok-rest.status c.in-Err.e c.spaced_outcome.result c.in_ok-rest.ensures.steps c.in-Err.is c.spaced_outcome.ensures.memory }
