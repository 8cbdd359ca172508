use Rattle.imap_body_types.specs.BodyValues.{body_seen}
use Rattle.imap_body.proofs.spanned_attribute.SpannedAttribute.push_parts.Goals as goal

pub returns : goal.returns
returns g c f h = rw (c.make_first_room.ensures) at (c.push_unboxed.ensures f h (body_seen f h))
