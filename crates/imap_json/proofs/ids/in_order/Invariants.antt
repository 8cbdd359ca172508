use Rattle.imap_json.proofs.Tables.{Orders}
use Rattle.imap_json.proofs.ids.in_order.Given as goal

abbrev pub invariant-loop-key : goal.invariant-loop-key
invariant-loop-key l = Orders l.fn.fields l.table.entries l.key-iterator
