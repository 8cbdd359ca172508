use Rattle.std.proofs.Common.{rules}
use Rattle.imap_grammar.specs.Text.{IsOwned}
use Rattle.imap_grammar.proofs.Memory.{handed}
use Rattle.imap_bytes.specs.Texts.{text, YieldsOwned}
use Rattle.imap_proto.proofs.Memory.{plain_stopped}
use Rattle.imap_proto.proofs.outcomes.plain_outcome.Goals as goal

pub returns-in_err-rest-clause-failure : goal.returns-in_err-rest-clause-failure
returns-in_err-rest-clause-failure c = handed (YieldsOwned IsOwned text c.args.i.now) c.in_err-rest.field-0.0 c.text.result _ (search rules) c.in_err-rest.was c.text.ensures.memory

pub returns-in_err-rest-clause-memory : goal.returns-in_err-rest-clause-memory
returns-in_err-rest-clause-memory c = plain_stopped _ c.in_err-rest.field-0.0 c.text.result _ c.in_err-rest.was c.text.ensures.steps c.text.ensures.memory
