use Rattle.std.proofs.Common.{◌≡◌, ◌+◌, not, position, drop, take, get_or, refl, sym, ◌∙◌, arith}
use Rattle.std.specs.List.{position_or_len}
use Rattle.std.proofs.lemmas.List.Sums.{prefix_len-le-length}
use Rattle.std.proofs.lemmas.Simd.{length-chunk}
use Rattle.std.proofs.lemmas.List.{get_or-drop, drop-drop, length-drop}
use Rattle.imap_grammar.specs.Classes.{is_quoted_char}
use Rattle.imap_grammar.specs.Meaning.{outside}
use Rattle.imap_grammar.specs.Scanning.{may_stop}
use Rattle.imap_grammar.proofs.Lanes.{before_quote, in_front, none_stops, passed_over, passed_on, further}
use Rattle.imap_grammar.proofs.scanning.far_quote.Goals as goal

pub returns-then-left-k-eq34-clause-at : goal.returns-then-left-k-eq34-clause-at
returns-then-left-k-eq34-clause-at c =
    let is = c.lowest_set-k.ensures ∙ sym c.sixteen_stops.ensures in
    let at = before_quote c.sixteens.left.now _ c.sixteens-test.true (λ k. rw (c.sixteens.invariant.behind, get_or-drop c.sixteens.n c.args.i.now k 0) (c.type_inv.i (c.sixteens.n + k))) is c.if-k-lt16.true c.if-left-k-eq34.true in
    rw (c.sixteens.invariant.found, at) refl

pub returns-then-left-k-eq34-clause-found : goal.returns-then-left-k-eq34-clause-found
returns-then-left-k-eq34-clause-found c n room first quoted =
    let is = c.lowest_set-k.ensures ∙ sym c.sixteen_stops.ensures in
    let here = in_front may_stop 16 c.sixteens.left.now c.sixteens-test.true (omega (arith, is, c.if-k-lt16.true)) ∙ sym is in
    rw (← first, c.sixteens.invariant.stop, here) refl

pub returns-else-left-k-eq34-clause-found : goal.returns-else-left-k-eq34-clause-found
returns-else-left-k-eq34-clause-found c n room first quoted =
    let is = c.lowest_set-k.ensures ∙ sym c.sixteen_stops.ensures in
    let here = in_front may_stop 16 c.sixteens.left.now c.sixteens-test.true (omega (arith, is, c.if-k-lt16.true)) ∙ sym is in
    let same : get_or c.sixteens.left.now c.lowest_set-k.result 0 ≡ get_or c.args.i.now n 0 = rw (← first, c.sixteens.invariant.stop, here, c.sixteens.invariant.behind) (get_or-drop c.sixteens.n c.args.i.now c.lowest_set-k.result 0) in
    absurd (c.if-left-k-eq34.false (same ∙ quoted))

pub sixteens-preserved : goal.sixteens-preserved
sixteens-preserved c =
    let left = c.sixteens.left.now in
    let back = c.split_at.ensures.back in
    let none : position_or_len may_stop (take 16 left) ≡ 16 = omega (arith, c.lowest_set-k.ensures ∙ sym c.sixteen_stops.ensures, c.if-k-lt16.false, prefix_len-le-length (λ b. not (may_stop b)) (take 16 left), length-chunk 0 16 left c.sixteens-test.true) in
    let passed = none_stops left c.sixteens-test.true (λ k. rw (c.sixteens.invariant.behind, get_or-drop c.sixteens.n c.args.i.now k 0) (c.type_inv.i (c.sixteens.n + k))) none in
    record {
      found = rw (c.sixteens.invariant.found, passed_on (outside is_quoted_char) 16 left c.sixteens-test.true passed, back) (further c.sixteens.n 16 (position (outside is_quoted_char) (drop 16 left)));
      stop = let more = passed_over may_stop 16 left c.sixteens-test.true none in rw back (omega (arith, c.sixteens.invariant.stop, more));
      behind = rw (back, c.sixteens.invariant.behind) (drop-drop 16 c.sixteens.n c.args.i.now);
      counted = rw back (omega (arith, c.sixteens.invariant.counted, length-drop 16 left, c.sixteens-test.true));
    }
