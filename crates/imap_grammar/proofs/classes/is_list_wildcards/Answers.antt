use Rattle.std.proofs.Common.{rules}
use Rattle.imap_grammar.proofs.classes.is_list_wildcards.Goals as goal

pub returns-else-c-eq37 : goal.returns-else-c-eq37
returns-else-c-eq37 c = search rules depth 2
