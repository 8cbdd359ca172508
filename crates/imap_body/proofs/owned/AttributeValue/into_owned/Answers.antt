use Rattle.std.proofs.Common.{◌∙◌}
use Rattle.std.proofs.lemmas.Result.{IfOk-weaker}
use Rattle.imap_body.proofs.Changed.{attribute_is_owned}
use Rattle.imap_body.proofs.owned.AttributeValue.into_owned.Goals as goal

pub returns : goal.returns
returns c = IfOk-weaker c.into_mapped.result _ _ (λ x is. is ∙ attribute_is_owned c.args.self) c.into_mapped.ensures
