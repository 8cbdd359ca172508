use Rattle.imap_json.proofs.ByteStrings.{all_bytes}
use Rattle.imap_json.proofs.texts.write_base64.Goals as goal

pub returns : goal.returns
returns c = rw (all_bytes c.args.bytes.now c.type_inv.bytes) (rw c.in_ok-text.ensures at c.variant.ensures)
