use Rattle.std.proofs.lemmas.Result.{on_ok_weaker}
use Rattle.imap_json.proofs.Writing.{joined}
use Rattle.imap_json.proofs.mailbox_data.of_mailbox.Goals as goal

pub returns : goal.returns
returns g c =
    let fields = joined c.in_ok-begin_object-2.ensures (joined c.in_ok-field.ensures (joined c.in_ok-field-2.ensures c.in_ok-end_object.ensures)) in
    on_ok_weaker c.end_object-2.result (λ e. joined c.in_ok-begin_object.ensures (joined c.in_ok-key.ensures (joined fields e))) c.end_object-2.ensures
