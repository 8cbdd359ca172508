use Rattle.std.proofs.lemmas.Result.{on_ok_weaker}
use Rattle.imap_json.proofs.Writing.{joined}
use Rattle.imap_json.proofs.bodies.begin_multipart.Goals as goal

pub returns : goal.returns
returns c = on_ok_weaker c.begin_array.result (λ e. joined c.in_ok-begin_object.ensures (joined c.in_ok-key.ensures (joined c.in_ok-begin_object-2.ensures (joined c.in_ok-field.ensures (joined c.in_ok-key-2.ensures e))))) c.begin_array.ensures
