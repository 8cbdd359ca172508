use Rattle.std.proofs.Common.{rules}
use Rattle.imap_grammar.proofs.at.span.Span.bytes.Goals as goal

pub returns : goal.returns
returns c = search rules depth 2
