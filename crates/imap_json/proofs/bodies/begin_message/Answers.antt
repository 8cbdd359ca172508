use Rattle.std.proofs.lemmas.Result.{on_ok_weaker}
use Rattle.imap_json.proofs.Writing.{joined}
use Rattle.imap_json.proofs.bodies.begin_message.Goals as goal

pub returns : goal.returns
returns c = on_ok_weaker c.key-2.result (λ e. joined c.in_ok-begin_object.ensures (joined c.in_ok-key.ensures (joined c.in_ok-begin_object-2.ensures (joined c.in_ok-field.ensures (joined c.in_ok-field-2.ensures (joined c.in_ok-field-3.ensures e)))))) c.key-2.ensures
