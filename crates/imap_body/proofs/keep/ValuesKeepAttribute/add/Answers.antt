use Rattle.std.proofs.Common.{sym, [], ◌∷◌}
use Rattle.std.proofs.lemmas.List.{map-append}
use Rattle.imap_grammar.specs.Text.{text_of}
use Rattle.imap_body_types.specs.Spans.{bytes_of}
use Rattle.imap_body.specs.SpannedAttributes.{attribute_said}
use Rattle.imap_body.proofs.keep.ValuesKeepAttribute.add.Goals as goal

pub returns : goal.returns
returns c read same = rw (map-append (attribute_said (λ n. text_of) (λ n. bytes_of) c.args.self.now.message.now) read (c.args.attribute ∷ []), sym same) (c.push_parts.ensures text_of bytes_of)
