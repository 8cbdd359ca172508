use Rattle.std.proofs.Common.{rules}
use Rattle.imap_grammar.proofs.laws.equality.Goals as goal

pub returns-clause-needed : goal.returns-clause-needed
returns-clause-needed c = search rules depth 2
