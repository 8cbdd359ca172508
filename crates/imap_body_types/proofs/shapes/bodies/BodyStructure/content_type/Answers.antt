use Rattle.std.proofs.Common.{ap}
use Rattle.imap_body_types.specs.BodyValues.{CommonValue, common_seen}
use Rattle.imap_body_types.proofs.shapes.bodies.BodyStructure.content_type.Goals as goal

pub returns : goal.returns
unfolding common_seen
returns g c = λ f h. ap (λ (v : CommonValue). v.ty) (c.common.ensures f h)
