use Rattle.std.proofs.Common.{refl, arith}
use Rattle.imap_grammar.specs.Classes.{is_quoted_char}
use Rattle.imap_grammar.specs.declared.classes.TheConstants.{QUOTED_CHAR}
use Rattle.imap_grammar.proofs.Tables.{table_told}
use Rattle.imap_grammar.proofs.classes.is_quoted_char.Goals as goal

pub returns : goal.returns
returns c = table_told is_quoted_char QUOTED_CHAR refl refl c.args.c (omega arith)
