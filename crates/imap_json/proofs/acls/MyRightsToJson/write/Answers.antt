use Rattle.std.proofs.Common.{codes}
use Rattle.std.proofs.lemmas.Result.{on_ok_weaker}
use Rattle.imap_json.specs.Rights.{right_json}
use Rattle.imap_json.proofs.Writing.{joined, plain_field}
use Rattle.imap_json.proofs.acls.MyRightsToJson.write.Goals as goal

pub returns : goal.returns
returns c = on_ok_weaker c.end_object.result (λ e. joined c.in_ok-begin_object.ensures (joined c.in_ok-field.ensures (joined (plain_field right_json (codes "rights") c.args.self.now.rights.items c.in_ok-field-2.ensures) e))) c.end_object.ensures
