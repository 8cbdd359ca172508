use Rattle.std.proofs.Common.{◌≡◌, ◌+◌, ◌*◌, map, take}
use Rattle.imap_body_types.specs.BodyValues.{body_seen}
use Rattle.imap_body_types.proofs.Trees.{bodies_of_tree, bodies_of_trees}
use Rattle.imap_body_types.proofs.maps.bodies.+body.Given as goal

abbrev pub decreases-mapped_body : goal.decreases-mapped_body
decreases-mapped_body g l = 2 * bodies_of_tree l.body.now

abbrev pub decreases-mapped_inner : goal.decreases-mapped_inner
decreases-mapped_inner g l = 2 * bodies_of_tree l.inner.now + 1

abbrev pub decreases-mapped_bodies : goal.decreases-mapped_bodies
decreases-mapped_bodies g l = 2 * bodies_of_trees l.bodies.now.items + 1

abbrev pub invariant-mapped_bodies-loop-body : goal.invariant-mapped_bodies-loop-body
invariant-mapped_bodies-loop-body g l = map (body_seen g.C.Change.after g.D.Change.after) l.mapped.items ≡ map (body_seen (g.C.Change.before l.c) (g.D.Change.before l.d)) (take l.body-index l.body-items)
