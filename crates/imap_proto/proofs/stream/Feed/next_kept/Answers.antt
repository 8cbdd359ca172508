use Rattle.std.proofs.Common.{subst}
use Rattle.imap_grammar.specs.Memory.{FailsOnlyIf}
use Rattle.imap_proto.specs.Feeds.{FeedMayWant}
use Rattle.imap_proto.specs.Fronts.{IsKeptFront}
use Rattle.imap_proto.proofs.Feeds.{settled_refuses, settled_keeps}
use Rattle.imap_proto.proofs.Fronts.{kept_is_front, front_gives, front_more, front_passes, front_fewer}
use Rattle.imap_proto.proofs.stream.Feed.next_kept.Goals as goal

pub settle-requires : goal.settle-requires
settle-requires c = kept_is_front _ c.kept_front-kept.result (subst (λ h. IsKeptFront h c.kept_front-kept.result) c.held.ensures c.kept_front-kept.ensures.front)

pub returns-clause-gives : goal.returns-clause-gives
returns-clause-gives c = front_gives _ _ c.kept_front-kept.result c.settle.result (subst (λ h. IsKeptFront h c.kept_front-kept.result) c.held.ensures c.kept_front-kept.ensures.front) c.settle.ensures

pub returns-clause-goes_on : goal.returns-clause-goes_on
returns-clause-goes_on c = front_more _ _ c.settle.result (returns-clause-gives c)

pub returns-clause-passes : goal.returns-clause-passes
returns-clause-passes c = front_passes _ _ c.settle.result (returns-clause-gives c)

pub returns-clause-fewer : goal.returns-clause-fewer
returns-clause-fewer c = front_fewer _ _ c.settle.result (returns-clause-gives c)

pub returns-clause-denied : goal.returns-clause-denied
returns-clause-denied c = settled_refuses _ _ c.kept_front-kept.result c.settle.result (kept_is_front _ c.kept_front-kept.result (subst (λ h. IsKeptFront h c.kept_front-kept.result) c.held.ensures c.kept_front-kept.ensures.front)) (subst (λ h. FailsOnlyIf (FeedMayWant h) c.kept_front-kept.result) c.held.ensures c.kept_front-kept.ensures.failure) c.settle.ensures

pub returns-clause-kept : goal.returns-clause-kept
returns-clause-kept c = settled_keeps _ _ c.kept_front-kept.result c.settle.result c.settle.ensures
