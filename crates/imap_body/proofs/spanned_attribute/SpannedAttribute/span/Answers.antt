use Rattle.std.proofs.Common.{rules}
use Rattle.imap_body.proofs.spanned_attribute.SpannedAttribute.span.Goals as goal

pub returns : goal.returns
returns c = search rules depth 2
