use Rattle.std.proofs.Common.{map, ◌∙◌, ◌++◌, ◌∷◌, [], ap}
use Rattle.imap_body_types.proofs.Lists.{mapped_further, mapped_whole}
use Rattle.imap_body_types.proofs.maps.parts.mapped_texts.Goals as goal

pub loop-text-preserved : goal.loop-text-preserved
loop-text-preserved g c =
    let old = g.C.Change.before c.args.c.now in
    let new = g.C.Change.after in
    ap (map new) c.push_reserved.ensures.items ∙ ap (λ l. map new (l ++ (c.in_ok-change.field-0 ∷ []))) c.in_ok-reserve.ensures.items ∙ mapped_further new old c.loop-text.mapped.items c.deref-text-items.result.now c.loop-text.text-index _ _ c.loop-text-test.true c.loop-text.invariant (c.in_ok-change.ensures ∙ ap old c.text-item.is)

pub returns : goal.returns
returns g c =
    let old = g.C.Change.before c.args.c.now in
    let new = g.C.Change.after in
    mapped_whole new old c.loop-text.mapped.items c.deref-text-items.result.now c.loop-text.text-index c.loop-text-test.false c.loop-text.invariant ∙ ap (map old) c.deref-text-items.ensures.value
