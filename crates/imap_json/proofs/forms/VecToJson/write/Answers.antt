use Rattle.std.proofs.Common.{map}
use Rattle.std.proofs.lemmas.Result.{on_ok_weaker}
use Rattle.imap_json.proofs.Writing.{array_told}
use Rattle.imap_json.proofs.forms.VecToJson.write.Goals as goal

pub returns : goal.returns
returns g c =
    let items = rw c.deref.ensures.value at c.in_ok-write_items.ensures in
    on_ok_weaker c.end_array.result (λ e. array_told (map g.T.ToJson.json (map g.T.ToJson.said c.args.self.now.items)) c.in_ok-begin_array.ensures items e) c.end_array.ensures
