use Rattle.std.proofs.Common.{rules}
use Rattle.imap_bytes.specs.Strings.{nil}
use Rattle.imap_bytes.proofs.at.strings.nil.Goals as goal

pub returns-clause-steps : goal.returns-clause-steps
unfolding nil
returns-clause-steps c = search rules depth 2
