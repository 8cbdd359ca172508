use Rattle.std.proofs.Common.{map, drop}
use Rattle.imap_proto.specs.Streams.{joined}
use Rattle.imap_proto.proofs.Wholes.{ReadSoFar}
use Rattle.imap_proto.proofs.stream.read_pieces.Given as goal

abbrev pub invariant-loop-piece : goal.invariant-loop-piece
invariant-loop-piece l = ReadSoFar (joined (map (λ p. p.now) l.pieces)) (joined (map (λ p. p.now) (drop l.piece-index l.pieces))) l.feed l.responses.items l.end
