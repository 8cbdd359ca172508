use Rattle.std.proofs.Common.{IfOk, subst}
use Rattle.imap_bytes.proofs.Places.{behind_byte}
use Rattle.imap_body.specs.SpannedAttributes.{EndsAt}
use Rattle.imap_body.proofs.at.lists.spaced_attribute.Goals as goal

pub returns-clause-stands : goal.returns-clause-stands
returns-clause-stands g c = subst (λ k. IfOk c.spanned_attribute.result (λ x. EndsAt g.K.Keep.text_said g.K.Keep.bytes_said c.args.m.now k x.0 x.1)) (behind_byte 32 c.args.m.now _ c.args.p c.in_ok-p.p c.in_ok-p.ensures.steps c.in_ok-p.ensures.inside.1) c.spanned_attribute.ensures.stands
