use Rattle.std.proofs.lemmas.Grind.{common_steps}
use Rattle.std.proofs.Common.{rules, ◌≤◌, ◌+◌, ◌*◌, ◌-◌, ap, ◌∙◌, arith}
use Rattle.imap_bytes.proofs.Digits.{one_more, is_a_digit, below_next, eleven_digits_fit}
use Rattle.imap_bytes.proofs.at.numbers.digits_in_front.Goals as goal

pub loop-count-preserved : goal.loop-count-preserved
loop-count-preserved c =
    let byte = c.in_ok-get.field-0.now in
    let value = c.digit_value-digit.result in
    let digit = is_a_digit byte value c.digit_value-digit.ensures.other (omega (arith, c.if-digit-gt9.false)) in
    let more = one_more c.args.i.now c.loop-count.count byte c.in_ok-get.ensures.lookup.3 digit c.loop-count.invariant.all in
    let is = c.digit_value-digit.ensures.digit digit in
    let few : c.loop-count.count + 1 ≤ 11 = omega (arith, c.loop-count-test.true) in
    let below = below_next c.loop-count.count c.loop-count.number value c.loop-count.invariant.below is.0 in
    record {
      few = few;
      within = more.0;
      all = more.1;
      so_far = ap (λ k. c.loop-count.number * 10 + k) is.1 ∙ ap (λ n. n * 10 + (byte - 48)) c.loop-count.invariant.so_far ∙ more.2;
      below = below;
      fits = eleven_digits_fit (c.loop-count.count + 1) _ few below;
    }

pub returns-then-digit-gt9-clause-at : goal.returns-then-digit-gt9-clause-at
returns-then-digit-gt9-clause-at c = (c.loop-count.invariant.all, grind (arith, common_steps), search rules)
