use Rattle.imap_json.proofs.Writing.{item_told}
use Rattle.imap_json.proofs.forms.write_items.Goals as goal

pub loop-item-preserved : goal.loop-item-preserved
loop-item-preserved g c = item_told g.T.ToJson.json g.T.ToJson.said c.args.items.now c.loop-item.item-index c.item-item.result c.loop-item-test.true c.item-item.is c.loop-item.invariant c.in_ok-write.ensures
