use Rattle.std.proofs.Common.{refl}
use Rattle.imap_grammar.proofs.Decoding.{utf8-decoded, other-decoded}
use Rattle.imap_grammar.proofs.text.decode.Goals as goal

pub returns-in-Ok-clause-text : goal.returns-in-Ok-clause-text
returns-in-Ok-clause-text c = utf8-decoded c.args.bytes.now _ c.in-Ok.ensures.cases.1 c.in-Ok.ensures.cases.0

pub returns-in-Ok-clause-memory : goal.returns-in-Ok-clause-memory
returns-in-Ok-clause-memory c = λ u. refl

pub returns-in_ok-lossy-in-Err-clause-text : goal.returns-in_ok-lossy-in-Err-clause-text
returns-in_ok-lossy-in-Err-clause-text c = other-decoded c.args.bytes.now _ c.in-Err.ensures.cases.0 c.in_ok-lossy-in-Err.ensures
