use Rattle.std.proofs.Common.{sym, ◌∙◌}
use Rattle.std.specs.Prelude.{option_map}
use Rattle.imap_proto.proofs.Feeds.{unread_wants}
use Rattle.imap_session.specs.Seen.{pending_of}
use Rattle.imap_session.proofs.Fronts.{judged, none_judged, untagged}
use Rattle.imap_session.proofs.pending.has_strange_front.Goals as goal

pub returns-then-not-may_be_tagged-clause-judged : goal.returns-then-not-may_be_tagged-clause-judged
returns-then-not-may_be_tagged-clause-judged c = untagged (option_map pending_of c.args.pending) c.args.held.now (sym c.may_be_tagged.ensures ∙ c.if-not-may_be_tagged.true)

pub returns-in-Ok-clause-judged : goal.returns-in-Ok-clause-judged
returns-in-Ok-clause-judged c = judged (option_map pending_of c.args.pending) c.args.held.now c.in-Ok.field-0-0.now _ c.is_expected-expected.result c.in-Ok.ensures.steps c.is_expected-expected.ensures

pub returns-in_default : goal.returns-in_default
returns-in_default c =
    record { judged = none_judged (option_map pending_of c.args.pending) c.args.held.now c.in-Err.error c.in-Err.ensures.steps c.in_default.not-Failure; memory = tt }

pub returns-in-Failure-clause-memory : goal.returns-in-Failure-clause-memory
returns-in-Failure-clause-memory c = unread_wants _ c.parse.result _ c.in-Err.is c.parse.ensures.failure c.parse.ensures.memory c.in-Failure.is
