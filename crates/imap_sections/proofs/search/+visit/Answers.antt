use Rattle.std.proofs.Common.{rules, refl, ap, sym, ◌∙◌, ◌+◌, arith, append_assoc}
use Rattle.std.proofs.lemmas.Grind.{common_steps}
use Rattle.std.proofs.lemmas.List.{append-nil}
use Rattle.std.proofs.lemmas.Result.{err_from_is_err_and}
use Rattle.imap_sections.proofs.Visits.{visited_multipart, opened, many_here, crowded, uncrowded, not_crowded, none_left, visited_alone, few_alone, alone_not_crowded}
use Rattle.imap_sections.proofs.search.+visit.Goals as goal

pub returns-in_err-hold-clause-many : goal.returns-in_err-hold-clause-many
returns-in_err-hold-clause-many t c =
    let p = err_from_is_err_and c.from_residual.result c.from_residual.ensures.1 in
    rw (p.1, p.2) (λ e. cc)

pub returns-in_err-hold-clause-crowded : goal.returns-in_err-hold-clause-crowded
returns-in_err-hold-clause-crowded t c = λ h. absurd (alone_not_crowded c.args.body.now c.in_default.not-Multipart h)

pub returns-in_default : goal.returns-in_default
returns-in_default t c =
    let e = visited_alone c.args.path.now.items c.args.body.now c.in_default.not-Multipart in
    record {
      parts = rw (c.in_ok-hold.ensures, e) refl;
      path = refl;
      few = few_alone c.args.body.now c.in_default.not-Multipart;
      many = tt;
      crowded = λ h. absurd (alone_not_crowded c.args.body.now c.in_default.not-Multipart h);
    }

pub returns-then-len-clause-many : goal.returns-then-len-clause-many
returns-then-len-clause-many t c =
    λ e. crowded c.args.body.now c.in-Multipart.common c.in-Multipart.bodies c.in-Multipart.extension c.in-Multipart.is (omega (arith, c.if-len.true, c.len.ensures, c.in-Multipart.bodies.ok.0))

pub returns-in_err-hold-2-clause-many : goal.returns-in_err-hold-2-clause-many
returns-in_err-hold-2-clause-many t c =
    let p = err_from_is_err_and c.from_residual-in_err-hold-2.result c.from_residual-in_err-hold-2.ensures.1 in
    rw (p.1, p.2) (λ e. cc)

pub loop-inner-init : goal.loop-inner-init
loop-inner-init t c =
    let e = visited_multipart c.args.path.now.items c.args.body.now c.in-Multipart.common c.in-Multipart.bodies c.in-Multipart.extension c.in-Multipart.is in
    record {
      seen = rw (c.deref-inner-items.ensures.value, c.in_ok-hold-2.ensures, append_assoc, e) refl;
      many = rw c.deref-inner-items.ensures.value (uncrowded c.args.body.now c.in-Multipart.common c.in-Multipart.bodies c.in-Multipart.extension c.in-Multipart.is (omega (arith, c.if-len.false, c.len.ensures, c.in-Multipart.bodies.ok.0)));
      path = refl;
      number = refl;
    }

pub returns-in_err-push-clause-many : goal.returns-in_err-push-clause-many
returns-in_err-push-clause-many t c =
    let p = err_from_is_err_and c.from_residual-in_err-push.result c.from_residual-in_err-push.ensures.1 in
    rw (p.1, p.2) (λ e. cc)

pub returns-in_err-visit-clause-many : goal.returns-in_err-visit-clause-many
returns-in_err-visit-clause-many t c =
    let p = err_from_is_err_and c.from_residual-in_err-visit.result c.from_residual-in_err-visit.ensures.1 in
    rw (p.1, p.2) (λ e. sym c.loop-inner.invariant.many ∙ many_here c.deref-inner-items.result.now c.loop-inner.inner-index c.inner-item.result c.loop-inner-test.true c.inner-item.is (c.in_err-visit.ensures.many e))

pub loop-inner-preserved : goal.loop-inner-preserved
loop-inner-preserved t c =
    let e = opened c.deref-inner-items.result.now c.loop-inner.inner-index c.inner-item.result c.loop-inner-test.true c.inner-item.is in
    record {
      seen = rw (c.in_ok-visit.ensures.parts, append_assoc, c.in_ok-push.ensures.items, c.loop-inner.invariant.path) (rw e at c.loop-inner.invariant.seen);
      many = rw (e, c.in_ok-visit.ensures.few) at c.loop-inner.invariant.many;
      path = search (rules, common_steps);
      number = ap (λ n. n + 1) c.loop-inner.invariant.number;
    }

pub returns-clause-parts : goal.returns-clause-parts
returns-clause-parts t c =
    let e = none_left c.deref-inner-items.result.now c.loop-inner.inner-index c.loop-inner-test.false in
    rw (e, append-nil) at c.loop-inner.invariant.seen

pub returns-clause-few : goal.returns-clause-few
returns-clause-few t c =
    let e = none_left c.deref-inner-items.result.now c.loop-inner.inner-index c.loop-inner-test.false in
    sym (rw e at c.loop-inner.invariant.many)

pub returns-in_err-hold-2-clause-crowded : goal.returns-in_err-hold-2-clause-crowded
returns-in_err-hold-2-clause-crowded t c = λ h. absurd (not_crowded c.args.body.now c.in-Multipart.common c.in-Multipart.bodies c.in-Multipart.extension c.in-Multipart.is (omega (arith, c.if-len.false, c.len.ensures, c.in-Multipart.bodies.ok.0)) h)

pub returns-in_err-push-clause-crowded : goal.returns-in_err-push-clause-crowded
returns-in_err-push-clause-crowded t c = λ h. absurd (not_crowded c.args.body.now c.in-Multipart.common c.in-Multipart.bodies c.in-Multipart.extension c.in-Multipart.is (omega (arith, c.if-len.false, c.len.ensures, c.in-Multipart.bodies.ok.0)) h)

pub returns-in_err-visit-clause-crowded : goal.returns-in_err-visit-clause-crowded
returns-in_err-visit-clause-crowded t c = λ h. absurd (not_crowded c.args.body.now c.in-Multipart.common c.in-Multipart.bodies c.in-Multipart.extension c.in-Multipart.is (omega (arith, c.if-len.false, c.len.ensures, c.in-Multipart.bodies.ok.0)) h)

pub returns-clause-crowded : goal.returns-clause-crowded
returns-clause-crowded t c = λ h. absurd (not_crowded c.args.body.now c.in-Multipart.common c.in-Multipart.bodies c.in-Multipart.extension c.in-Multipart.is (omega (arith, c.if-len.false, c.len.ensures, c.in-Multipart.bodies.ok.0)) h)
