use Rattle.std.proofs.lemmas.Result.{on_ok_weaker}
use Rattle.imap_json.proofs.Writing.{joined}
use Rattle.imap_json.proofs.skipped.write_skipped.Goals as goal

pub returns : goal.returns
returns c =
    on_ok_weaker c.end_object.result (λ e. joined c.in_ok-begin_object.ensures (joined c.in_ok-field.ensures (joined c.in_ok-key.ensures (joined c.in_ok-write_bytes.ensures e)))) c.end_object.ensures
