use Rattle.std.proofs.Common.{map, ◌∙◌, ◌++◌, ◌∷◌, [], ap}
use Rattle.imap_body_types.specs.EnvelopeValues.{address_seen}
use Rattle.imap_body_types.proofs.Lists.{mapped_further, mapped_whole}
use Rattle.imap_body_types.proofs.maps.envelopes.mapped_address_list.Goals as goal

pub loop-address-preserved : goal.loop-address-preserved
loop-address-preserved g c =
    let old = address_seen (g.C.Change.before c.args.c.now) in
    let new = address_seen g.C.Change.after in
    ap (map new) c.push_reserved.ensures.items ∙ ap (λ l. map new (l ++ (c.in-Ok.made ∷ []))) c.reserve.ensures.items ∙ mapped_further new old c.loop-address.mapped.items c.deref-address-items.result.now c.loop-address.address-index _ _ c.loop-address-test.true c.loop-address.invariant (c.in-Ok.ensures.changed ∙ ap old c.address-item.is)

pub returns : goal.returns
returns g c =
    let old = address_seen (g.C.Change.before c.args.c.now) in
    let new = address_seen g.C.Change.after in
    mapped_whole new old c.loop-address.mapped.items c.deref-address-items.result.now c.loop-address.address-index c.loop-address-test.false c.loop-address.invariant ∙ ap (map old) c.deref-address-items.ensures.value
