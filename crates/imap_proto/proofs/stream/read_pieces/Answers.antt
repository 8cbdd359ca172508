use Rattle.std.proofs.Common.{sym, subst, map, ◌∙◌}
use Rattle.imap_proto.specs.Streams.{joined}
use Rattle.imap_proto.proofs.Wholes.{ReadSoFar, none_read, joined_from, read_nothing, read_piece, read_denied, all_read}
use Rattle.imap_proto.proofs.stream.read_pieces.Goals as goal
use Rattle.imap_proto.proofs.stream.read_pieces.Goals.{in-Waits+in_ok-end-in-Waits, in-Denied}

pub loop-piece-init : goal.loop-piece-init
loop-piece-init c = rw (c.new-feed.ensures.empty, c.new-responses.ensures.items) (read_nothing _)

pub loop-piece-preserved : goal.loop-piece-preserved
loop-piece-preserved c =
    let all = joined (map (λ p. p.now) c.args.pieces.now) in
    let before = subst (λ k. ReadSoFar all k c.loop-piece.feed c.loop-piece.responses.items c.loop-piece.end) (joined_from c.args.pieces.now c.loop-piece.piece-index _ c.loop-piece-test.true) c.loop-piece.invariant in
    elim c.match-end.branch [
      | in-Waits+in_ok-end-in-Waits w ↦
          (rw (w.feed-is, w.responses-is, w.end-is) (read_piece all _ _ _ _ _ _ _ _ before (rw c.in_ok-feed.ensures.fed at w.in_ok-end-in-Waits.ensures)))
      | in-Denied w ↦ (rw (w.feed-is, w.responses-is, w.end-is, c.in_ok-feed.ensures.fed) (read_denied all _ _ _ _ _ w.in-Denied.is before))
    ]

pub returns-clause-whole : goal.returns-clause-whole
returns-clause-whole c = all_read c.args.pieces.now c.loop-piece.piece-index _ _ _ _ c.loop-piece-test.false c.loop-piece.invariant (c.in_ok-rest.ensures.items ∙ c.held.ensures)

pub returns-then-is_empty-clause-whole : goal.returns-then-is_empty-clause-whole
returns-then-is_empty-clause-whole c = rw (c.new.ensures.items, c.new-then-is_empty.ensures.items) (none_read c.args.pieces.now (sym c.is_empty.ensures ∙ c.if-is_empty.true))
