use Rattle.std.proofs.lemmas.Grind.{common_steps}
use Rattle.std.proofs.Common.{◌≡◌, Some, position, refl, rules, arith}
use Rattle.imap_grammar.specs.Meaning.{outside}
use Rattle.imap_grammar.proofs.scanning.run_end.Goals as goal

pub returns-then-not-has-4-clause-at : goal.returns-then-not-has-4-clause-at
returns-then-not-has-4-clause-at g c =
    let at : position (outside g.C.Class.class) c.fours.left.now ≡ Some 3 = grind (arith, common_steps) in
    rw (c.fours.invariant.found, at) refl

pub returns-in-Some-clause-at : goal.returns-in-Some-clause-at
returns-in-Some-clause-at c = search rules depth 2
