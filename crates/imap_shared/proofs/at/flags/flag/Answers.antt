use Rattle.std.proofs.Common.{rules}
use Rattle.imap_shared.specs.Flags.{flag}
use Rattle.imap_shared.proofs.at.flags.flag.Goals as goal

pub returns-in_default-2-clause-steps : goal.returns-in_default-2-clause-steps
unfolding flag
returns-in_default-2-clause-steps c = search rules depth 2
