use Rattle.std.proofs.Common.{rules}
use Rattle.imap_data.proofs.types.annotations.Metadata.clone.Goals as goal

pub returns : goal.returns
returns c = search rules depth 2
