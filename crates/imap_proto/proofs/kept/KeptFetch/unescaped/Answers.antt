use Rattle.std.proofs.Common.{Some, sym, ap, ◌∙◌}
use Rattle.std.specs.Option.{option_map}
use Rattle.std.proofs.lemmas.List.{length-map}
use Rattle.std.proofs.lemmas.Option.{slice_get-map, slice_get_read}
use Rattle.std.proofs.lemmas.Result.{IfOk-weaker}
use Rattle.imap_body.specs.SpannedAttributes.{attribute_in, unescaped_attribute_in}
use Rattle.imap_proto.proofs.kept.KeptFetch.unescaped.Goals as goal

pub returns : goal.returns
returns c =
    let m = c.args.self.now.bytes.items in
    let named = unescaped_attribute_in m in
    let spans = c.args.self.now.attributes.items in
    let there = slice_get_read spans _ c.args.k _ (length-map spans (attribute_in m)) c.requires c.index.ensures in
    IfOk-weaker c.unescaped.result _ _ (λ v is. slice_get-map named spans c.args.k ∙ ap (option_map named) there ∙ ap (λ x. Some x) (sym is)) (rw c.deref.ensures.value at c.unescaped.ensures)
