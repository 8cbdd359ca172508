use Rattle.std.proofs.Common.{◌≡◌, ◌++◌, map}
use Rattle.imap_shared.proofs.owned.each_owned.Given as goal

abbrev pub invariant-loop-item : goal.invariant-loop-item
invariant-loop-item g l = map g.T.IntoOwned.owned_said l.owned.items ++ map g.T.IntoOwned.owned (map g.T.IntoOwned.said l.item-iterator.rest.items) ≡ map g.T.IntoOwned.owned (map g.T.IntoOwned.said l.fn.list.items)
