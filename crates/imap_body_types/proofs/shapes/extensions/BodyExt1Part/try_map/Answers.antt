use Rattle.std.proofs.Common.{refl}
use Rattle.imap_body_types.specs.ExtensionValues.{ext_1part_seen}
use Rattle.imap_body_types.proofs.shapes.extensions.BodyExt1Part.try_map.Goals as goal

pub returns : goal.returns
unfolding ext_1part_seen
returns g c =
    rw (c.in-Ok.ensures.changed, c.in-Ok-mapped_disposition.ensures, c.in-Ok-mapped_optional_texts.ensures, c.in-Ok-mapped_optional_text.ensures.changed, c.in-Ok-mapped_extension.ensures) refl
