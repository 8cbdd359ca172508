use Rattle.std.proofs.Common.{rules}
use Rattle.imap_shared.proofs.copies.copied_texts.Goals as goal

pub returns-clause-same : goal.returns-clause-same
returns-clause-same c = search rules depth 2
