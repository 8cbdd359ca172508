use Rattle.std.proofs.Common.{rules}
use Rattle.imap_body_types.specs.FieldValues.{fields_seen}
use Rattle.imap_body_types.proofs.shapes.fields.BodyFields.try_map.Goals as goal

pub returns : goal.returns
unfolding fields_seen
returns c = search rules depth 2
