use Rattle.std.proofs.Common.{refl}
use Rattle.imap_proto.proofs.Feeds.{front_owned, front_within, unread_wants, unowned_wants}
use Rattle.imap_proto.proofs.stream.owned_front.Goals as goal

pub returns-in-Ok-clause-front : goal.returns-in-Ok-clause-front
returns-in-Ok-clause-front c = front_owned _ _ c.in-Ok.response _ c.into_owned.result _ c.in-Ok.ensures.steps refl c.into_owned.ensures.same c.reached.ensures

pub returns-in-Ok-clause-within : goal.returns-in-Ok-clause-within
returns-in-Ok-clause-within c = front_within _ c.reached.result (returns-in-Ok-clause-front c)

pub returns-in-Ok-clause-failure : goal.returns-in-Ok-clause-failure
returns-in-Ok-clause-failure c = unowned_wants _ _ _ _ c.into_owned.result c.reached.result c.in-Ok.ensures.steps c.into_owned.ensures.memory c.reached.ensures

pub returns-in-Err-clause-failure : goal.returns-in-Err-clause-failure
returns-in-Err-clause-failure c = unread_wants _ c.parse.result _ c.in-Err.is c.parse.ensures.failure c.parse.ensures.memory
