use Rattle.std.proofs.Common.{rules}
use Rattle.imap_shared.specs.Capabilities.{spaced_name}
use Rattle.imap_shared.proofs.readers.capabilities.spaced_name.Goals as goal

pub returns : goal.returns
unfolding spaced_name
returns c = search rules depth 2
