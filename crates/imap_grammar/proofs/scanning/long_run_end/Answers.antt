use Rattle.std.proofs.lemmas.Grind.{common_steps}
use Rattle.std.proofs.Common.{◌≡◌, Some, position, refl, arith}
use Rattle.imap_grammar.specs.Meaning.{outside}
use Rattle.imap_grammar.proofs.scanning.long_run_end.Goals as goal

pub returns-then-k-lt16-clause-at : goal.returns-then-k-lt16-clause-at
returns-then-k-lt16-clause-at g c =
    let at : position (outside g.C.Class.class) c.sixteens.left.now ≡ Some c.sixteen_end-k.result = grind (arith, common_steps) in
    rw (c.sixteens.invariant.found, at) refl
