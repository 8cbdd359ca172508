use Rattle.std.proofs.Common.{map, take}
use Rattle.imap_json.specs.Forms.{Appends, items_front}
use Rattle.imap_json.proofs.forms.write_items.Given as goal

abbrev pub invariant-loop-item : goal.invariant-loop-item
invariant-loop-item g l = Appends l.initial.out l.out (items_front (map g.T.ToJson.json (map g.T.ToJson.said (take l.item-index l.items))))
