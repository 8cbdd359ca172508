use Rattle.std.proofs.Common.{◌≡◌, map, take}
use Rattle.imap_body.specs.AttributeValues.{attribute_value}
use Rattle.imap_body.proofs.Changed.{seen_owned}
use Rattle.imap_body.proofs.owned.owned_attributes.Given as goal

abbrev pub invariant-loop-attribute : goal.invariant-loop-attribute
invariant-loop-attribute l = map attribute_value l.owned.items ≡ map seen_owned (take l.attribute-index l.attributes)
