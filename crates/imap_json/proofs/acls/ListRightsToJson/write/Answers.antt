use Rattle.std.proofs.Common.{codes}
use Rattle.std.proofs.lemmas.Result.{on_ok_weaker}
use Rattle.imap_json.specs.Rights.{right_json}
use Rattle.imap_json.proofs.Writing.{joined, plain_field}
use Rattle.imap_json.proofs.acls.ListRightsToJson.write.Goals as goal

pub returns : goal.returns
returns c = on_ok_weaker c.end_object.result (λ e. joined c.in_ok-begin_object.ensures (joined c.in_ok-field.ensures (joined c.in_ok-field-2.ensures (joined (plain_field right_json (codes "required") c.args.self.now.required.items c.in_ok-field-3.ensures) (joined (plain_field right_json (codes "optional") c.args.self.now.optional.items c.in_ok-field-4.ensures) e))))) c.end_object.ensures
