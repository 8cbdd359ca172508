use Rattle.std.proofs.Common.{◌≡◌, length, position, ◌+◌}
use Rattle.std.specs.Option.{option_map}
use Rattle.imap_grammar.specs.Meaning.{outside}
use Rattle.imap_grammar.proofs.scanning.long_run_end.Given as goal

abbrev pub invariant-sixteens : goal.invariant-sixteens
invariant-sixteens g l = record {
  found : position (outside g.C.Class.class) l.i ≡ option_map (λ k. l.n + k) (position (outside g.C.Class.class) l.left);
  counted : l.n + length l.left ≡ length l.i;
}

abbrev pub decreases-sixteens : goal.decreases-sixteens
decreases-sixteens g l = length l.left
