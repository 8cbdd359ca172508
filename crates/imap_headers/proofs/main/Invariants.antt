use Rattle.std.proofs.Common.{length}
use Rattle.imap_headers.proofs.main.Given as goal

-- a response or a skipped line takes at least a byte of what is held
abbrev pub decreases-steps : goal.decreases-steps
decreases-steps l = length l.session.held
