use Rattle.std.proofs.Common.{subst}
use Rattle.imap_proto.specs.Feeds.{IsOwnedFront, FeedMayWant}
use Rattle.imap_grammar.specs.Memory.{FailsOnlyIf}
use Rattle.imap_proto.proofs.Feeds.{owned_is_front, settled_gives, gave_more, gave_fewer, settled_refuses, settled_keeps}
use Rattle.imap_proto.proofs.Skipping.{gave_passes}
use Rattle.imap_proto.proofs.stream.Feed.next.Goals as goal

pub settle-requires : goal.settle-requires
settle-requires c = owned_is_front _ c.owned_front-front.result (subst (λ h. IsOwnedFront h c.owned_front-front.result) c.held.ensures c.owned_front-front.ensures.front)

pub returns-clause-gives : goal.returns-clause-gives
returns-clause-gives c = settled_gives _ _ c.owned_front-front.result c.settle.result (subst (λ h. IsOwnedFront h c.owned_front-front.result) c.held.ensures c.owned_front-front.ensures.front) c.settle.ensures

pub returns-clause-goes_on : goal.returns-clause-goes_on
returns-clause-goes_on c = gave_more _ _ c.settle.result (returns-clause-gives c)

pub returns-clause-passes : goal.returns-clause-passes
returns-clause-passes c = gave_passes _ _ c.settle.result (returns-clause-gives c)

pub returns-clause-fewer : goal.returns-clause-fewer
returns-clause-fewer c = gave_fewer _ _ c.settle.result (returns-clause-gives c)

pub returns-clause-denied : goal.returns-clause-denied
returns-clause-denied c = settled_refuses _ _ c.owned_front-front.result c.settle.result (owned_is_front _ c.owned_front-front.result (subst (λ h. IsOwnedFront h c.owned_front-front.result) c.held.ensures c.owned_front-front.ensures.front)) (subst (λ h. FailsOnlyIf (FeedMayWant h) c.owned_front-front.result) c.held.ensures c.owned_front-front.ensures.failure) c.settle.ensures

pub returns-clause-kept : goal.returns-clause-kept
returns-clause-kept c = settled_keeps _ _ c.owned_front-front.result c.settle.result c.settle.ensures
