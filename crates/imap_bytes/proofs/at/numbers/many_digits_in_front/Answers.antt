use Rattle.std.proofs.Common.{rules, ◌≡◌, ◌≤◌, ◌^◌, ◌+◌, ◌*◌, ◌-◌, None, length, take, sym, ap, subst, ◌∙◌, arith}
use Rattle.std.specs.List.{list_all}
use Rattle.std.specs.Str.Parse.{digits_value}
use Rattle.imap_grammar.specs.Classes.{is_digit}
use Rattle.imap_bytes.specs.Numbers.{DigitsInFront}
use Rattle.imap_bytes.proofs.Digits.{one_more, next_left, is_a_digit, all_digits, too_large}
use Rattle.imap_bytes.proofs.at.numbers.many_digits_in_front.Goals as goal

pub returns-in_err-digits_end-clause-at : goal.returns-in_err-digits_end-clause-at
returns-in_err-digits_end-clause-at c =
    let none : c.from_residual.result ≡ None = search rules in
    subst (DigitsInFront (2 ^ 32) c.args.i.now) (sym none) (all_digits c.args.i.now c.in_err-digits_end.ensures.at)

pub returns-then-number-from-clause-at : goal.returns-then-number-from-clause-at
returns-then-number-from-clause-at c =
    let n = next_left c.args.i.now c.loop-b.left.now c.in-Some.more.now c.in-Some.b.now c.loop-b.invariant.within c.loop-b.invariant.behind c.in-Some.ensures.cases.0 c.in-Some.ensures.cases.1 in
    let digit = is_a_digit c.in-Some.b.now c.digit_value-digit.result c.digit_value-digit.ensures.other (omega (arith, c.if-digit-gt9.false)) in
    let more = one_more c.args.i.now (length c.args.i.now - length c.loop-b.left.now) c.in-Some.b.now (n.0, n.1) digit c.loop-b.invariant.all in
    let large : 2 ^ 32 ≤ digits_value 10 (take (length c.args.i.now - length c.loop-b.left.now + 1) c.args.i.now) = omega (arith, c.if-number-from.true, c.from.ensures, more.2, c.loop-b.invariant.so_far) in
    too_large (2 ^ 32) c.args.i.now (length c.args.i.now - length c.loop-b.left.now + 1) _ more.0 more.1 large c.in_ok-digits_end.ensures.at

pub loop-b-preserved : goal.loop-b-preserved
loop-b-preserved c =
    let n = next_left c.args.i.now c.loop-b.left.now c.in-Some.more.now c.in-Some.b.now c.loop-b.invariant.within c.loop-b.invariant.behind c.in-Some.ensures.cases.0 c.in-Some.ensures.cases.1 in
    let digit = is_a_digit c.in-Some.b.now c.digit_value-digit.result c.digit_value-digit.ensures.other (omega (arith, c.if-digit-gt9.false)) in
    let more = one_more c.args.i.now (length c.args.i.now - length c.loop-b.left.now) c.in-Some.b.now (n.0, n.1) digit c.loop-b.invariant.all in
    let value : c.digit_value-digit.result ≡ c.in-Some.b.now - 48 = (c.digit_value-digit.ensures.digit digit).1 in
    let next : c.loop-b.number * 10 + c.digit_value-digit.result ≡ digits_value 10 (take (length c.args.i.now - length c.loop-b.left.now + 1) c.args.i.now) =
    ap (λ k. c.loop-b.number * 10 + k) value ∙ ap (λ n. n * 10 + (c.in-Some.b.now - 48)) c.loop-b.invariant.so_far ∙ more.2 in
    record {
      within = omega (arith, n.0, n.2, more.0, c.in-Some.ensures.cases.1, c.loop-b.invariant.within);
      behind = n.3;
      all = ap (λ k. list_all is_digit (take k c.args.i.now)) n.2 ∙ more.1;
      so_far = next ∙ ap (λ k. digits_value 10 (take k c.args.i.now)) (sym n.2);
      fits = search (rules, arith);
    }
