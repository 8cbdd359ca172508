-- What the spans of parameters and encodings name.
use Rattle.imap_grammar.specs.Text.{Text}
use Rattle.imap_body_types.specs.declared.spans.SpannedText.{SpannedText}
use Rattle.imap_body_types.specs.declared.shapes.fields.ContentEncoding.{ContentEncoding}
use Rattle.imap_body_types.specs.Spans.{Lookup, text_in}
use Rattle.imap_body_types.specs.FieldValues.{pair_seen, EncodingValue, encoding_seen}

abbrev pub pair_in : Lookup → SpannedText × SpannedText → Text × Text
pair_in n x = pair_seen (text_in n) x

abbrev pub encoding_in : Lookup → ContentEncoding SpannedText → EncodingValue
encoding_in n x = encoding_seen (text_in n) x
