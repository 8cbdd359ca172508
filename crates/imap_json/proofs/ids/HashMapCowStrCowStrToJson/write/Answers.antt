use Rattle.std.proofs.Common.{subst}
use Rattle.std.proofs.lemmas.Result.{on_ok_weaker}
use Rattle.imap_extensions.specs.Ids.{id_value}
use Rattle.imap_json.specs.Forms.{Appends, fields_front}
use Rattle.imap_json.specs.Ids.{id_fields}
use Rattle.imap_json.proofs.Writing.{object_told}
use Rattle.imap_json.proofs.ids.HashMapCowStrCowStrToJson.write.Goals as goal

pub returns : goal.returns
returns c =
    let fields = subst (λ fs. Appends c.begin_object.new.self c.write_fields.new.out (fields_front fs)) c.in_ok-table.ensures c.in_ok-write_fields.ensures in
    on_ok_weaker c.end_object.result (λ e. object_told (id_fields (id_value c.args.self.now)) c.in_ok-begin_object.ensures fields e) c.end_object.ensures
