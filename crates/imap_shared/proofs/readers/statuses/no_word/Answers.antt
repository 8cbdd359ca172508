use Rattle.std.proofs.Common.{rules}
use Rattle.imap_shared.specs.Statuses.{no_word}
use Rattle.imap_shared.proofs.readers.statuses.no_word.Goals as goal

pub returns : goal.returns
unfolding no_word
returns c = search rules depth 2
