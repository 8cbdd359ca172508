use Rattle.std.proofs.Common.{refl}
use Rattle.imap_body_types.specs.BodyValues.{single_seen}
use Rattle.imap_body_types.proofs.shapes.bodies.BodyContentSinglePart.try_map.Goals as goal

pub returns : goal.returns
unfolding single_seen
returns g c = rw (c.in_ok-mapped_optional_text.ensures.changed, c.in_ok-mapped_optional_text-2.ensures.changed, c.in_ok-mapped_optional_text-3.ensures.changed, c.in_ok-try_map.ensures.changed) refl
