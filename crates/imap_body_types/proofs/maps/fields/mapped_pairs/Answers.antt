use Rattle.std.proofs.Common.{◌≡◌, ◌++◌, ◌∷◌, [], map, ◌∙◌, ap}
use Rattle.imap_body_types.specs.FieldValues.{pair_seen}
use Rattle.imap_body_types.proofs.Lists.{mapped_further, mapped_whole}
use Rattle.imap_body_types.proofs.maps.fields.mapped_pairs.Goals as goal

pub loop-name-preserved : goal.loop-name-preserved
loop-name-preserved g c =
    let old = pair_seen (g.C.Change.before c.args.c.now) in
    let new = pair_seen g.C.Change.after in
    let now : new (c.in_ok-change.field-0, c.in_ok-change-2.field-0) ≡ old c.loop-name-item.result = (λ i. (c.in_ok-change.ensures i, c.in_ok-change-2.ensures i)) in
    ap (map new) c.push_reserved.ensures.items ∙ ap (λ l. map new (l ++ ((c.in_ok-change.field-0, c.in_ok-change-2.field-0) ∷ []))) c.in_ok-reserve.ensures.items ∙ mapped_further new old c.loop-name.mapped.items c.deref-name-items.result.now c.loop-name.name-index _ _ c.loop-name-test.true c.loop-name.invariant (now ∙ ap old c.loop-name-item.is)

pub returns : goal.returns
returns g c =
    let old = pair_seen (g.C.Change.before c.args.c.now) in
    let new = pair_seen g.C.Change.after in
    mapped_whole new old c.loop-name.mapped.items c.deref-name-items.result.now c.loop-name.name-index c.loop-name-test.false c.loop-name.invariant ∙ ap (map old) c.deref-name-items.ensures.value
