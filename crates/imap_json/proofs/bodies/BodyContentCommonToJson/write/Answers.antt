use Rattle.imap_body_types.specs.BodyValues.{common_seen}
use Rattle.std.proofs.lemmas.Result.{on_ok_weaker}
use Rattle.imap_json.proofs.Writing.{joined}
use Rattle.imap_json.proofs.bodies.BodyContentCommonToJson.write.Goals as goal

pub returns : goal.returns
unfolding common_seen
returns c = on_ok_weaker c.end_object.result (λ e. joined c.in_ok-begin_object.ensures (joined c.in_ok-field.ensures (joined c.in_ok-field-2.ensures (joined c.in_ok-field-3.ensures (joined c.in_ok-field-4.ensures e))))) c.end_object.ensures
