use Rattle.std.proofs.Common.{map, take}
use Rattle.imap_grammar.specs.Text.{text_of}
use Rattle.imap_body_types.specs.Spans.{bytes_of}
use Rattle.imap_body_types.specs.BodyValues.{body_seen}
use Rattle.imap_json.specs.Forms.{Appends, items_front}
use Rattle.imap_json.specs.Bodies.{body_json}
use Rattle.imap_json.proofs.bodies.+body.Given as goal

abbrev pub invariant-write_bodies-loop-body : goal.invariant-write_bodies-loop-body
invariant-write_bodies-loop-body l = Appends l.initial.out l.out (items_front (map body_json (map (body_seen text_of bytes_of) (take l.body-index l.body-items))))
