use Rattle.std.proofs.lemmas.Result.{on_ok_weaker}
use Rattle.imap_json.proofs.Writing.{joined}
use Rattle.imap_json.proofs.bodies.end_multipart.Goals as goal

pub returns : goal.returns
returns c = on_ok_weaker c.end_object-2.result (λ e. joined c.in_ok-end_array.ensures (joined c.in_ok-field.ensures (joined c.in_ok-end_object.ensures e))) c.end_object-2.ensures
