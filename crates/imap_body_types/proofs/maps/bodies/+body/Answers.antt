use Rattle.std.proofs.Common.{◌≡◌, ◌<◌, ◌++◌, ◌∷◌, [], length, get_or, map, ◌∙◌, sym, ap, subst, arith}
use Rattle.std.specs.Option.{option_map}
use Rattle.imap_body_types.specs.EnvelopeValues.{envelope_seen}
use Rattle.imap_body_types.specs.ExtensionValues.{extension_seen}
use Rattle.imap_body_types.specs.BodyValues.{common_seen, single_seen, common_of, extension_of, body_seen, Basic, TextBody, Message, Multipart, bodies_of}
use Rattle.imap_body_types.proofs.Lists.{mapped_further, mapped_whole}
use Rattle.imap_body_types.proofs.Trees.{bodies_of_tree, basic_seen, text_seen, message_seen, multipart_seen, few_in_list, fewer_in_multipart, fewer_in_message}
use Rattle.imap_body_types.proofs.maps.bodies.+body.Goals as goal
use Rattle.imap_body_types.proofs.maps.bodies.+body.Goals.{mapped_body-in-Basic+in-Ok-try_map, mapped_body-in-Text+in-Ok-try_map-2, mapped_body-in-Message+in-Ok-try_map-3+in-Ok-try_map-4+in-Ok-inner, mapped_body-in-Multipart+in-Ok-mapped_bodies}

pub mapped_bodies-mapped_body-requires : goal.mapped_bodies-mapped_body-requires
mapped_bodies-mapped_body-requires g t c κs within =
    let items = c.deref-body-items.ensures.value in
    let few = few_in_list c.args.bodies.now.items c.loop-body.body-index c.body-item.result (subst (λ l. c.loop-body.body-index < length l) items c.loop-body-test.true) (c.body-item.is ∙ ap (λ l. get_or l c.loop-body.body-index c.body-item.result) items) in
    (omega (arith, few, c.decreases), within)

pub mapped_bodies-loop-body-preserved : goal.mapped_bodies-loop-body-preserved
mapped_bodies-loop-body-preserved g t c =
    let old = body_seen (g.C.Change.before c.args.c.now) (g.D.Change.before c.args.d.now) in
    let new = body_seen g.C.Change.after g.D.Change.after in
    ap (map new) c.push_reserved.ensures.items ∙ ap (λ l. map new (l ++ (c.in-Ok.made ∷ []))) c.reserve.ensures.items ∙ mapped_further new old c.loop-body.mapped.items c.deref-body-items.result.now c.loop-body.body-index _ _ c.loop-body-test.true c.loop-body.invariant (c.in-Ok.ensures ∙ ap old c.body-item.is)

pub mapped_bodies-returns : goal.mapped_bodies-returns
mapped_bodies-returns g t c =
    let old = body_seen (g.C.Change.before c.args.c.now) (g.D.Change.before c.args.d.now) in
    let new = body_seen g.C.Change.after g.D.Change.after in
    mapped_whole new old c.loop-body.mapped.items c.deref-body-items.result.now c.loop-body.body-index c.loop-body-test.false c.loop-body.invariant ∙ ap (map old) c.deref-body-items.ensures.value

pub mapped_body-mapped_inner-inner-requires : goal.mapped_body-mapped_inner-inner-requires
mapped_body-mapped_inner-inner-requires g t c κs within =
    let less = fewer_in_message c.args.body.now c.in-Message.common c.in-Message.other c.in-Message.envelope c.in-Message.body c.in-Message.lines c.in-Message.extension c.in-Message.is in
    (omega (arith, less, ap bodies_of_tree c.deref.ensures, c.decreases), within)

pub mapped_body-mapped_bodies-requires : goal.mapped_body-mapped_bodies-requires
mapped_body-mapped_bodies-requires g t c κs within =
    let less = fewer_in_multipart c.args.body.now c.in-Multipart.common c.in-Multipart.bodies c.in-Multipart.extension c.in-Multipart.is in
    (omega (arith, less, c.decreases), within)

pub mapped_body-returns : goal.mapped_body-returns
mapped_body-returns g t c =
    let f = g.C.Change.before c.args.c.now in
    let h = g.D.Change.before c.args.d.now in
    let old = body_seen f h in
    let new = body_seen g.C.Change.after g.D.Change.after in
    let common : common_seen g.C.Change.after c.in_ok-common.common ≡ common_of (old c.args.body.now) = c.in_ok-common.ensures ∙ sym (c.common.ensures f h) in
    let last : option_map (extension_seen g.C.Change.after) c.in-Ok.made ≡ extension_of (old c.args.body.now) = c.in-Ok.ensures ∙ sym (c.extension.ensures f h) in
    elim c.match-body.branch [
      | mapped_body-in-Basic+in-Ok-try_map w ↦
          (let is = ap old w.in-Basic.is ∙ basic_seen f h w.in-Basic.common w.in-Basic.other w.in-Basic.extension in
          ap new w.result-is
          ∙ basic_seen g.C.Change.after g.D.Change.after _ _ _
          ∙ (λ i. Basic (common i) (w.in-Ok-try_map.ensures i) (last i))
          ∙ ap (λ v. Basic (common_of v) (single_seen f w.in-Basic.other) (extension_of v)) is
          ∙ sym is)
      | mapped_body-in-Text+in-Ok-try_map-2 w ↦
          (let is = ap old w.in-Text.is ∙ text_seen f h w.in-Text.common w.in-Text.other w.in-Text.lines w.in-Text.extension in
          ap new w.result-is
          ∙ text_seen g.C.Change.after g.D.Change.after _ _ _ _
          ∙ (λ i. TextBody (common i) (w.in-Ok-try_map-2.ensures i) w.in-Text.lines (last i))
          ∙ ap (λ v. TextBody (common_of v) (single_seen f w.in-Text.other) w.in-Text.lines (extension_of v)) is
          ∙ sym is)
      | mapped_body-in-Message+in-Ok-try_map-3+in-Ok-try_map-4+in-Ok-inner w ↦
          (let is = ap old w.in-Message.is ∙ message_seen f h w.in-Message.common w.in-Message.other w.in-Message.envelope w.in-Message.body w.in-Message.lines w.in-Message.extension in
          ap new w.result-is
          ∙ message_seen g.C.Change.after g.D.Change.after _ _ _ _ _ _
          ∙ (λ i. Message (common i) (w.in-Ok-try_map-3.ensures i) (w.in-Ok-try_map-4.ensures i) ((w.in-Ok-inner.ensures ∙ ap old w.deref.ensures) i) w.in-Message.lines (last i))
          ∙ ap (λ v. Message (common_of v) (single_seen f w.in-Message.other) (envelope_seen h w.in-Message.envelope) (old w.in-Message.body.value) w.in-Message.lines (extension_of v)) is
          ∙ sym is)
      | mapped_body-in-Multipart+in-Ok-mapped_bodies w ↦
          (let is = ap old w.in-Multipart.is ∙ multipart_seen f h w.in-Multipart.common w.in-Multipart.bodies w.in-Multipart.extension in
          ap new w.result-is
          ∙ multipart_seen g.C.Change.after g.D.Change.after _ _ _
          ∙ (λ i. Multipart (common i) (bodies_of (w.in-Ok-mapped_bodies.ensures i)) (last i))
          ∙ ap (λ v. Multipart (common_of v) (bodies_of (map old w.in-Multipart.bodies.items)) (extension_of v)) is
          ∙ sym is)
    ]
