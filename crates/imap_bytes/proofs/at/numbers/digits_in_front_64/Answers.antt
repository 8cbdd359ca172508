use Rattle.std.proofs.Common.{rules, ◌≡◌, ◌≤◌, ◌^◌, ◌+◌, ◌*◌, ◌-◌, None, take, sym, ap, subst, ◌∙◌, arith}
use Rattle.std.specs.Str.Parse.{digits_value}
use Rattle.imap_bytes.specs.Numbers.{DigitsInFront}
use Rattle.imap_bytes.proofs.Digits.{one_more, bounded, unbounded, all_digits, too_large}
use Rattle.imap_bytes.proofs.at.numbers.digits_in_front_64.Goals as goal

pub returns-in_err-digits_end-in-None-clause-at : goal.returns-in_err-digits_end-in-None-clause-at
returns-in_err-digits_end-in-None-clause-at c =
    let none : c.from_residual.result ≡ None = search rules in
    subst (DigitsInFront (2 ^ 64) c.args.i.now) (sym none) (all_digits c.args.i.now c.in_err-digits_end-in-None.ensures.at)

pub returns-in-None-clause-at : goal.returns-in-None-clause-at
returns-in-None-clause-at c =
    let more = one_more c.args.i.now c.loop-d.count c.in-Some.d.now c.in-Some.ensures.lookup.3 (sym c.is_digit.ensures ∙ c.if-not-is_digit.false) c.loop-d.invariant.all in
    let over = unbounded (2 ^ 64) _ (sym c.in-None.is ∙ c.with_digit.ensures) in
    let large : 2 ^ 64 ≤ digits_value 10 (take (c.loop-d.count + 1) c.args.i.now) = omega (arith, over, more.2, c.loop-d.invariant.so_far) in
    too_large (2 ^ 64) c.args.i.now (c.loop-d.count + 1) _ more.0 more.1 large c.in_ok-digits_end-in-None.ensures.at

pub loop-d-preserved : goal.loop-d-preserved
loop-d-preserved c =
    let more = one_more c.args.i.now c.loop-d.count c.in-Some.d.now c.in-Some.ensures.lookup.3 (sym c.is_digit.ensures ∙ c.if-not-is_digit.false) c.loop-d.invariant.all in
    let next = bounded (2 ^ 64) _ c.in-Some-with_digit.more (sym c.in-Some-with_digit.is ∙ c.with_digit.ensures) in
    record {
      within = more.0;
      all = more.1;
      so_far = next.0 ∙ ap (λ n. n * 10 + (c.in-Some.d.now - 48)) c.loop-d.invariant.so_far ∙ more.2;
      fits = omega (arith, next.0, next.1);
    }
