use Rattle.imap_body.proofs.spanned_attribute.SpannedAttribute.value.Goals as goal

pub returns : goal.returns
returns c = rw c.part.ensures at c.value.ensures
