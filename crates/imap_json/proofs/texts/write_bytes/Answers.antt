use Rattle.imap_json.proofs.ByteStrings.{is_text, is_no_text}
use Rattle.imap_json.proofs.texts.write_bytes.Goals as goal

pub returns-in-Ok : goal.returns-in-Ok
returns-in-Ok c = rw (is_text c.args.bytes.now c.in-Ok.ensures.cases.1) (rw c.in-Ok.ensures.cases.0 at c.string.ensures)

pub returns-in-Err : goal.returns-in-Err
returns-in-Err c = rw (is_no_text c.args.bytes.now c.in-Err.ensures.cases.0) c.write_base64.ensures
