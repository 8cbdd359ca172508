use Rattle.std.proofs.Common.{rules}
use Rattle.imap_grammar.proofs.Memory.{handed}
use Rattle.imap_proto.proofs.Memory.{continuation_wants, continuation_failed}
use Rattle.imap_proto.proofs.lines.continuation.Goals as goal

pub returns-in_err-rest-3-clause-failure : goal.returns-in_err-rest-3-clause-failure
returns-in_err-rest-3-clause-failure c =
    continuation_wants _ _ _ _ _ _ c.in_ok-rest.ensures.steps c.in_ok-rest-2.ensures.steps (handed _ c.in_err-rest-3.field-0.0 c.outcome.result _ (search rules) c.in_err-rest-3.was c.outcome.ensures.failure)

pub returns-in_err-rest-3-clause-memory : goal.returns-in_err-rest-3-clause-memory
returns-in_err-rest-3-clause-memory c =
    continuation_failed _ _ _ _ _ c.in_err-rest-3.field-0.0 c.outcome.result _ c.in_ok-rest.ensures.steps c.in_ok-rest-2.ensures.steps c.in_err-rest-3.was c.outcome.ensures.memory
