-- What spans name: the value that they stand for.
use Rattle.std.specs.Prelude.{Option}
use Rattle.std.specs.Option.{option_map}
use Rattle.imap_grammar.specs.declared.at.span.Span.{Span}
use Rattle.imap_grammar.specs.Text.{Text}
use Rattle.imap_body_types.specs.declared.spans.SpannedText.{SpannedText}
use Rattle.imap_body_types.specs.Spans.{Lookup, bytes_in, text_in}

abbrev pub maybe_bytes_in : Lookup → Option Span → Option Text
maybe_bytes_in n x = option_map (bytes_in n) x

abbrev pub maybe_text_in : Lookup → Option SpannedText → Option Text
maybe_text_in n x = option_map (text_in n) x
