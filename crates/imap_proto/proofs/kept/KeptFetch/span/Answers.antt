use Rattle.std.proofs.Common.{Some, sym, ap, ◌∙◌}
use Rattle.std.specs.Option.{option_map}
use Rattle.std.proofs.lemmas.List.{length-map}
use Rattle.std.proofs.lemmas.Option.{slice_get-map, slice_get_read}
use Rattle.imap_grammar.specs.Positions.{named_in}
use Rattle.imap_grammar.specs.Text.{Bytes}
use Rattle.imap_grammar.specs.declared.at.span.Span.{Span}
use Rattle.imap_body_types.specs.declared.spans.SpannedText.{SpannedText}
use Rattle.imap_body.specs.declared.spanned_attribute.SpannedAttribute.{SpannedAttribute}
use Rattle.imap_body.specs.SpannedAttributes.{attribute_in, span_of}
use Rattle.imap_proto.proofs.kept.KeptFetch.span.Goals as goal

pub returns : goal.returns
returns c =
    let m = c.args.self.now.bytes.items in
    let spans = c.args.self.now.attributes.items in
    let bytes : SpannedAttribute SpannedText Span → Bytes = λ s. named_in m (span_of s) in
    let there = slice_get_read spans _ c.args.k _ (length-map spans (attribute_in m)) c.requires c.index.ensures in
    slice_get-map bytes spans c.args.k ∙ ap (option_map bytes) there ∙ ap (λ (x : Bytes). Some x) (sym (rw (c.deref.ensures.value, c.span.ensures) at c.part.ensures))
