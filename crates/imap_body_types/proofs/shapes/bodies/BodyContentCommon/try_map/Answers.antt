use Rattle.std.proofs.Common.{rules}
use Rattle.imap_body_types.specs.BodyValues.{common_seen}
use Rattle.imap_body_types.proofs.shapes.bodies.BodyContentCommon.try_map.Goals as goal

pub returns : goal.returns
unfolding common_seen
returns g c = search rules depth 2
