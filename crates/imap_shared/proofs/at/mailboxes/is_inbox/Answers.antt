use Rattle.std.proofs.Common.{arith}
use Rattle.std.proofs.lemmas.Grind.{common_steps}
use Rattle.imap_shared.proofs.at.mailboxes.is_inbox.Goals as goal

pub returns : goal.returns
returns c = grind (arith, common_steps)
