use Rattle.std.proofs.Common.{map, ◌∙◌, sym, ap}
use Rattle.imap_body_types.specs.ExtensionValues.{Listed, extensions_of, extension_seen}
use Rattle.imap_body_types.proofs.Lists.{mapped_further, mapped_whole}
use Rattle.imap_body_types.proofs.Trees.{extension_list_seen}
use Rattle.imap_body_types.proofs.shapes.extensions.BodyExtension.+try_map.Goals as goal

pub loop-member-preserved : goal.loop-member-preserved
loop-member-preserved g t c =
    ap (map (extension_seen g.C.Change.after)) c.in_ok-push-in-List.ensures.items ∙ mapped_further (extension_seen g.C.Change.after) (extension_seen (g.C.Change.before c.args.c.now)) c.loop-member.mapped.items c.deref-member-items.result.now c.loop-member.member-index _ _ c.loop-member-test.true c.loop-member.invariant (c.in_ok-try_map-in-List.ensures ∙ ap (extension_seen (g.C.Change.before c.args.c.now)) c.member-item.is)

pub returns-after-loop-member : goal.returns-after-loop-member
returns-after-loop-member g t c =
    let all = mapped_whole (extension_seen g.C.Change.after) (extension_seen (g.C.Change.before c.args.c.now)) c.loop-member.mapped.items c.deref-member-items.result.now c.loop-member.member-index c.loop-member-test.false c.loop-member.invariant in
    extension_list_seen g.C.Change.after c.loop-member.mapped ∙ ap (λ l. Listed (extensions_of l)) (all ∙ ap (map (extension_seen (g.C.Change.before c.args.c.now))) c.deref-member-items.ensures.value) ∙ sym (extension_list_seen (g.C.Change.before c.args.c.now) c.in-List.members) ∙ sym (ap (extension_seen (g.C.Change.before c.args.c.now)) c.in-List.is)
