use Rattle.std.proofs.Common.{rules}
use Rattle.imap_grammar.proofs.Memory.{part_failed}
use Rattle.imap_proto.specs.Lines.{request_tag}
use Rattle.imap_proto.proofs.Memory.{failed, tagged_wants, tagged_stands}
use Rattle.imap_proto.proofs.lines.tagged.Goals as goal

pub returns-in_err-rest-clause-failure : goal.returns-in_err-rest-clause-failure
returns-in_err-rest-clause-failure c = part_failed _ request_tag _ _ _ (search rules) c.in_err-rest.ensures

pub returns-clause-failure : goal.returns-clause-failure
returns-clause-failure c =
    tagged_wants _ _ _ _ _ _ _ (failed c.in-Err-or_drop.field-0) c.in_ok-rest.ensures c.in_ok-rest-2.ensures.steps c.in_ok-rest-3.ensures.steps
    (rw c.in-Err-or_drop.is at c.spaced_outcome.ensures.failure)

pub returns-in-Err-clause-failure : goal.returns-in-Err-clause-failure
returns-in-Err-clause-failure c =
    λ q. tagged_stands _ _ _ _ _ _ _ _ _ _ _ c.in_ok-rest.ensures c.in_ok-rest-2.ensures.steps c.in_ok-rest-3.ensures.steps c.in-Ok-or_drop.ensures.steps c.in-Ok-or_drop-2.ensures.steps
