use Rattle.std.proofs.Common.{refl}
use Rattle.imap_command.proofs.selecting.selecting.Goals as goal

pub returns-clause-next_state : goal.returns-clause-next_state
returns-clause-next_state c = refl
