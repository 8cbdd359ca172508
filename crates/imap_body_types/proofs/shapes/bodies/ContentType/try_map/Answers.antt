use Rattle.std.proofs.Common.{refl}
use Rattle.imap_body_types.proofs.shapes.bodies.ContentType.try_map.Goals as goal

pub returns : goal.returns
returns g c = rw (c.in_ok-change.ensures, c.in_ok-change-2.ensures, c.in_ok-mapped_params.ensures) refl
