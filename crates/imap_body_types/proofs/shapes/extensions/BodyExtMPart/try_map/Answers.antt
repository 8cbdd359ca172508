use Rattle.std.proofs.Common.{refl}
use Rattle.imap_body_types.specs.ExtensionValues.{ext_mpart_seen}
use Rattle.imap_body_types.proofs.shapes.extensions.BodyExtMPart.try_map.Goals as goal

pub returns : goal.returns
unfolding ext_mpart_seen
returns g c =
    rw (c.in-Ok.ensures, c.in-Ok-mapped_disposition.ensures, c.in-Ok-mapped_optional_texts.ensures, c.in-Ok-mapped_optional_text.ensures.changed, c.in-Ok-mapped_extension.ensures) refl
