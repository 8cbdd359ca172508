use Rattle.imap_json.proofs.Tables.{Written}
use Rattle.imap_json.proofs.ids.write_fields.Given as goal

abbrev pub invariant-loop-key : goal.invariant-loop-key
invariant-loop-key l = Written l.initial.out l.out l.fn.table.entries l.key-iterator
