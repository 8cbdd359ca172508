use Rattle.std.proofs.Common.{refl}
use Rattle.imap_grammar.proofs.answer.ErrFromAllocError.from.Goals as goal

pub returns : goal.returns
returns c = refl
