use Rattle.std.proofs.Common.{◌≡◌, drop, map}
use Rattle.imap_body.specs.AttributeValues.{attribute_value}
use Rattle.imap_uses.specs.Messages.{first_uid}
use Rattle.imap_uses.proofs.messages.uid_among.Given as goal

-- no attribute so far is a UID
abbrev pub invariant-loop-attribute : goal.invariant-loop-attribute
invariant-loop-attribute l =
    first_uid (map attribute_value l.attributes)
    ≡ first_uid (map attribute_value (drop l.attribute-index l.attributes))
