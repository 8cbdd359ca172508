use Rattle.std.proofs.Common.{refl}
use Rattle.imap_grammar.proofs.classes.is_char.Goals as goal

pub returns : goal.returns
returns c = refl
