use Rattle.std.proofs.Common.{◌∙◌, refl}
use Rattle.std.proofs.lemmas.List.{take_all}
use Rattle.imap_body.proofs.Changed.{attributes_are_owned}
use Rattle.imap_body.proofs.owned.owned_attributes.Goals as goal

pub returns-clause-same : goal.returns-clause-same
returns-clause-same c = rw (c.loop-attribute.invariant, take_all _ _ c.loop-attribute-test.false) refl ∙ attributes_are_owned c.args.attributes.now
