use Rattle.std.proofs.Common.{map, subst}
use Rattle.std.proofs.lemmas.Result.{on_ok_weaker}
use Rattle.imap_grammar.specs.Text.{text_of}
use Rattle.imap_body_types.specs.ExtensionValues.{extension_seen}
use Rattle.imap_json.specs.Forms.{Appends, items_front}
use Rattle.imap_json.specs.Extensions.{extension_json}
use Rattle.imap_json.proofs.Writing.{item_told, items_told}
use Rattle.imap_json.proofs.Trees.{list_told}
use Rattle.imap_json.proofs.extensions.+extension.Goals as goal

pub write_extensions-loop-extension-preserved : goal.write_extensions-loop-extension-preserved
write_extensions-loop-extension-preserved t c =
    item_told extension_json (extension_seen text_of) c.deref-extension-items.result.now c.loop-extension.extension-index c.extension-item.result c.loop-extension-test.true c.extension-item.is c.loop-extension.invariant c.in_ok-write_extension.ensures

pub write_extensions-returns : goal.write_extensions-returns
write_extensions-returns t c =
    subst (λ xs. Appends c.args.out.now c.loop-extension.out (items_front (map extension_json (map (extension_seen text_of) xs)))) c.deref-extension-items.ensures.value
    (items_told extension_json (extension_seen text_of) c.deref-extension-items.result.now c.loop-extension.extension-index c.loop-extension-test.false c.loop-extension.invariant)

pub write_extension-returns-in_ok-write_extensions-in-List : goal.write_extension-returns-in_ok-write_extensions-in-List
write_extension-returns-in_ok-write_extensions-in-List t c =
    on_ok_weaker c.end_list.result (λ e. list_told c.args.extension.now c.in-List.members c.in-List.is c.in_ok-begin_list-in-List.ensures c.in_ok-write_extensions-in-List.ensures e) c.end_list.ensures
