-- The texts that spans name in a message.
use Rattle.std.specs.Prelude.{ℕ, List}
use Rattle.imap_grammar.specs.declared.at.span.Span.{Span}
use Rattle.imap_grammar.specs.Positions.{named_in}
use Rattle.imap_grammar.specs.Text.{Text, decoded}

-- the bytes decoded: those of a flag, which are UTF-8, as they are
abbrev pub decoded_in : List ℕ → Span → Text
decoded_in m s = decoded (named_in m s)
