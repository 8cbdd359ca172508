use Rattle.std.proofs.Common.{subst}
use Rattle.imap_json.proofs.Tables.{Written, one_written}
use Rattle.imap_json.proofs.ids.write_fields.Goals as goal

pub loop-key-preserved : goal.loop-key-preserved
loop-key-preserved c =
    let before = subst (Written c.args.out.now c.loop-key.out c.args.table.now.entries) c.in-Some.ensures.steps c.loop-key.invariant in
    one_written c.args.out.now c.loop-key.out c.field.new.out c.args.table.now.entries c.next.new.self (c.in-Some.key.now, c.in-Some.value.now) before c.in_ok-field.ensures
