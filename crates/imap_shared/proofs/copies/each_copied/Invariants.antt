use Rattle.std.proofs.Common.{◌≡◌, map, take}
use Rattle.imap_shared.proofs.copies.each_copied.Given as goal

abbrev pub invariant-loop-item : goal.invariant-loop-item
invariant-loop-item g l = map g.T.TryClone.said l.copies.items ≡ map g.T.TryClone.said (take l.item-index l.list.items)
