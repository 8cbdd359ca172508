use Rattle.std.proofs.Common.{rules}
use Rattle.imap_data.proofs.readers.annotations.owned_value.Goals as goal

pub returns-in-None : goal.returns-in-None
returns-in-None c = search rules depth 2
