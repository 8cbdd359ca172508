use Rattle.std.proofs.Common.{rules}
use Rattle.imap_bodystructure.proofs.at.extensions.maybe_nstring_text.Goals as goal

pub returns : goal.returns
returns c = search rules depth 2
