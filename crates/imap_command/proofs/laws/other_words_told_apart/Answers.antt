use Rattle.imap_command.proofs.OtherApart.{words_told_apart}
use Rattle.imap_command.proofs.laws.other_words_told_apart.Goals as goal

pub returns : goal.returns
returns c = words_told_apart
