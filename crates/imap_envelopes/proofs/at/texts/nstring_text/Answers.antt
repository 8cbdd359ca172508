use Rattle.std.proofs.Common.{rules, drop}
use Rattle.imap_bytes.proofs.MappedNil.{decoded_nstring}
use Rattle.imap_envelopes.proofs.at.texts.nstring_text.Goals as goal

pub returns-in_err-q-clause-steps : goal.returns-in_err-q-clause-steps
returns-in_err-q-clause-steps c = rw (decoded_nstring (drop c.args.p c.args.m.now), c.in_err-q.ensures.steps) (search rules)

pub returns-clause-steps : goal.returns-clause-steps
returns-clause-steps c = rw (decoded_nstring (drop c.args.p c.args.m.now), c.in_ok-q.ensures.steps) (search rules)
