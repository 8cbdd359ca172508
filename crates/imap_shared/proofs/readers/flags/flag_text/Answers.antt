use Rattle.std.proofs.Common.{rules}
use Rattle.imap_shared.specs.Flags.{flag_text}
use Rattle.imap_shared.proofs.readers.flags.flag_text.Goals as goal

pub returns-in_err-rest-clause-steps : goal.returns-in_err-rest-clause-steps
unfolding flag_text
returns-in_err-rest-clause-steps c = search rules depth 2
