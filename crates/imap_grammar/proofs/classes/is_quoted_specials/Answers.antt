use Rattle.std.proofs.Common.{rules}
use Rattle.imap_grammar.proofs.classes.is_quoted_specials.Goals as goal

pub returns-else-c-eq34 : goal.returns-else-c-eq34
returns-else-c-eq34 c = search rules depth 2
