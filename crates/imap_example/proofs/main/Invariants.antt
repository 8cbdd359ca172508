use Rattle.std.proofs.Common.{length}
use Rattle.imap_example.proofs.main.Given as goal

-- a response takes at least a byte of what is held
abbrev pub decreases-events : goal.decreases-events
decreases-events l = length l.session.held
