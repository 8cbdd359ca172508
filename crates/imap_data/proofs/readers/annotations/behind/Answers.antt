use Rattle.imap_data.proofs.Annotations.{behind_told}
use Rattle.imap_data.proofs.readers.annotations.behind.Goals as goal

pub returns : goal.returns
returns c = behind_told c.args.word.now c.args.bytes.now c.strip_prefix.result c.strip_prefix.ensures.cases
