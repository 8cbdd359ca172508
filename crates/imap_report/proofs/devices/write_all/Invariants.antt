use Rattle.std.proofs.Common.{◌≡◌, false, List, ℕ, ◌++◌, length}
use Rattle.std.specs.Io.KnownBytes.{Appends}
use Rattle.imap_report.proofs.devices.write_all.Given as goal

abbrev pub invariant-pieces : goal.invariant-pieces
invariant-pieces g l = record {
  written : (front : List ℕ) × (l.bytes ≡ front ++ l.rest) × Appends (g.W.Sink.contents l.fn.writer) (g.W.Sink.contents l.writer) front;
  on : g.W.Sink.has_failed l.writer ≡ false;
}

abbrev pub decreases-pieces : goal.decreases-pieces
decreases-pieces g l = length l.rest
