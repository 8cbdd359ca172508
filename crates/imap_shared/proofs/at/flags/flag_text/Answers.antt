use Rattle.imap_shared.specs.Flags.{flag_text}
use Rattle.imap_shared.proofs.Spanned.{flag_perm_there}
use Rattle.imap_shared.proofs.at.flags.flag_text.Goals as goal

pub returns-clause-steps : goal.returns-clause-steps
unfolding flag_text
returns-clause-steps c = flag_perm_there c.args.m.now c.args.p c.in_ok-q.q c.in_ok-q.field-0-1.now c.in_ok-q.ensures.ahead.0 c.in_ok-q.ensures.ahead.1 c.in_ok-q.ensures.steps
