use Rattle.std.proofs.Common.{rules}
use Rattle.imap_shared.proofs.readers.uid_sets.member.Goals as goal

pub returns-in-Some : goal.returns-in-Some
returns-in-Some c = search rules depth 2
