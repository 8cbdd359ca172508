use Rattle.std.proofs.Common.{map, subst}
use Rattle.std.proofs.lemmas.Result.{on_ok_weaker}
use Rattle.imap_grammar.specs.Text.{text_of}
use Rattle.imap_body_types.specs.Spans.{bytes_of}
use Rattle.imap_body_types.specs.BodyValues.{body_seen}
use Rattle.imap_json.specs.Forms.{Appends, items_front}
use Rattle.imap_json.specs.Bodies.{body_json}
use Rattle.imap_json.proofs.Writing.{item_told, items_told}
use Rattle.imap_json.proofs.Trees.{message_told, multipart_told}
use Rattle.imap_json.proofs.bodies.+body.Goals as goal

pub write_bodies-loop-body-preserved : goal.write_bodies-loop-body-preserved
write_bodies-loop-body-preserved t c =
    item_told body_json (body_seen text_of bytes_of) c.deref-body-items.result.now c.loop-body.body-index c.body-item.result c.loop-body-test.true c.body-item.is c.loop-body.invariant c.in_ok-write_body.ensures

pub write_bodies-returns : goal.write_bodies-returns
write_bodies-returns t c =
    subst (λ xs. Appends c.args.out.now c.loop-body.out (items_front (map body_json (map (body_seen text_of bytes_of) xs)))) c.deref-body-items.ensures.value
    (items_told body_json (body_seen text_of bytes_of) c.deref-body-items.result.now c.loop-body.body-index c.loop-body-test.false c.loop-body.invariant)

pub write_body-returns-in_ok-write_body-in-Message : goal.write_body-returns-in_ok-write_body-in-Message
write_body-returns-in_ok-write_body-in-Message t c =
    let m = c.in-Message in
    on_ok_weaker c.end_message.result (λ e. message_told c.args.body.now m.common m.other m.envelope m.body m.lines m.extension c.deref.result.now m.is c.deref.ensures c.in_ok-begin_message-in-Message.ensures c.in_ok-write_body-in-Message.ensures e) c.end_message.ensures

pub write_body-returns-in_ok-write_bodies-in-Multipart : goal.write_body-returns-in_ok-write_bodies-in-Multipart
write_body-returns-in_ok-write_bodies-in-Multipart t c =
    let m = c.in-Multipart in
    on_ok_weaker c.end_multipart.result (λ e. multipart_told c.args.body.now m.common m.bodies m.extension m.is c.in_ok-begin_multipart-in-Multipart.ensures c.in_ok-write_bodies-in-Multipart.ensures e) c.end_multipart.ensures
