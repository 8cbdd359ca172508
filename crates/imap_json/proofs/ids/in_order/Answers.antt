use Rattle.std.proofs.Common.{◌∙◌, refl, subst}
use Rattle.imap_json.proofs.Tables.{Orders, none_put, one_put, all_put}
use Rattle.imap_json.proofs.ids.in_order.Goals as goal

pub loop-key-init : goal.loop-key-init
loop-key-init c = none_put c.args.fields.now c.new-table.result.entries c.into_iter-key-iterator.result c.new-table.ensures.empty (c.into_iter-key-iterator.ensures.into_iter_gives ∙ c.iter-key-items.ensures.rest) c.iter-key-items.ensures.unique

pub loop-key-preserved : goal.loop-key-preserved
loop-key-preserved c =
    let before = subst (Orders c.args.fields.now c.loop-key.table.entries) c.in-Some.ensures.steps c.loop-key.invariant in
    one_put c.args.fields.now c.loop-key.table.entries c.insert.new.self.entries c.next.new.self c.as_str.result c.in-Some.key.now c.in-Some.value.now c.in-Some.value before c.as_str.ensures.value refl c.in_ok-insert.ensures.entries

pub returns : goal.returns
returns c = all_put c.args.fields.now c.loop-key.table.entries (subst (Orders c.args.fields.now c.loop-key.table.entries) c.in-None.ensures.steps.0 c.loop-key.invariant)
