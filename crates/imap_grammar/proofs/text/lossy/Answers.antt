use Rattle.std.proofs.Common.{refl}
use Rattle.imap_grammar.proofs.Decoding.{lossy_text}
use Rattle.imap_grammar.proofs.text.lossy.Goals as goal

pub returns : goal.returns
returns c = lossy_text c.args.bytes.now _ _ c.new-text.ensures.bytes (c.in_ok-to_str_lossy_into.ensures.ok refl)
