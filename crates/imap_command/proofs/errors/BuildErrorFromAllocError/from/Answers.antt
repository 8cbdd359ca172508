use Rattle.std.proofs.Common.{refl}
use Rattle.imap_command.proofs.errors.BuildErrorFromAllocError.from.Goals as goal

pub returns : goal.returns
returns c = refl
