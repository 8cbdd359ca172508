use Rattle.std.proofs.Common.{rules}
use Rattle.imap_grammar.proofs.lists.tried.Goals as goal

pub returns-in-Err-Incomplete : goal.returns-in-Err-Incomplete
returns-in-Err-Incomplete c = search rules depth 2
