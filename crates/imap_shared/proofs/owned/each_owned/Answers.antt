use Rattle.std.proofs.Common.{[], ◌∷◌, map, append_assoc}
use Rattle.std.proofs.lemmas.List.{map-append}
use Rattle.imap_shared.proofs.owned.each_owned.Goals as goal

pub loop-item-preserved : goal.loop-item-preserved
loop-item-preserved g c =
    let said = g.T.IntoOwned.said in
    let owned = g.T.IntoOwned.owned in
    let new = g.T.IntoOwned.owned_said in
    let before = rw (c.in-Some.ensures.steps.0) at c.loop-item.invariant in
    rw (c.in_ok-push.ensures.items, map-append new c.loop-item.owned.items (c.in_ok-into_owned.field-0 ∷ []), c.in_ok-into_owned.ensures, append_assoc (map new c.loop-item.owned.items) (owned (said c.in-Some.item) ∷ []) (map owned (map said c.next.new.self.rest.items))) before
