use Rattle.std.proofs.Common.{rules}
use Rattle.imap_extensions.proofs.readers.vanishings.earlier_word.Goals as goal

pub returns : goal.returns
returns c = search rules depth 2
