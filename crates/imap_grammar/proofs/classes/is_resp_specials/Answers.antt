use Rattle.std.proofs.Common.{refl}
use Rattle.imap_grammar.proofs.classes.is_resp_specials.Goals as goal

pub returns : goal.returns
returns c = refl
