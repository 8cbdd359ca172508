use Rattle.std.proofs.Common.{[], ◌∷◌, refl}
use Rattle.imap_command.specs.Arguments.{refusal}
use Rattle.imap_command.specs.Calls as call
use Rattle.imap_c.specs.Commands.{text_refusal}
use Rattle.imap_c.proofs.Making.{judged_ok}
use Rattle.imap_c.proofs.commands.select.Goals as goal

pub returns : goal.returns
returns c =
    let judged = rw c.in_ok-mailbox.ensures.0 at c.in_ok-select.ensures.judged in
    let begins = rw c.in_ok-mailbox.ensures.0 at c.in_ok-select.ensures.begins in
    let holds = c.from.ensures (call.select c.args.mailbox.now ∷ []) refl begins.text in
    judged_ok (text_refusal c.args.mailbox.now) (refusal c.args.mailbox.now) _ c.from.result.args c.in_ok-select.select c.in_ok-mailbox.ensures.1 judged holds.text
