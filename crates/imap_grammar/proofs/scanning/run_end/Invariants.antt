use Rattle.std.proofs.Common.{◌≡◌, length, position, ◌+◌}
use Rattle.std.specs.Option.{option_map}
use Rattle.imap_grammar.specs.Meaning.{outside}
use Rattle.imap_grammar.proofs.scanning.run_end.Given as goal

abbrev pub invariant-fours : goal.invariant-fours
invariant-fours g l = record {
  found : position (outside g.C.Class.class) l.i ≡ option_map (λ k. l.n + k) (position (outside g.C.Class.class) l.left);
  counted : l.n + length l.left ≡ length l.i;
}

abbrev pub decreases-fours : goal.decreases-fours
decreases-fours g l = length l.left
