use Rattle.imap_body.proofs.spanned_attribute.SpannedAttribute.unescaped.Goals as goal

pub returns : goal.returns
returns c = rw c.part.ensures at c.unescaped.ensures
