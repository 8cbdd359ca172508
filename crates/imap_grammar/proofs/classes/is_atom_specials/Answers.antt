use Rattle.std.proofs.Common.{rules}
use Rattle.imap_grammar.proofs.classes.is_atom_specials.Goals as goal

pub returns-then-is_quoted_specials : goal.returns-then-is_quoted_specials
returns-then-is_quoted_specials c = search rules depth 2
