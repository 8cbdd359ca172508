use Rattle.std.proofs.Common.{drop, arith, ◌<◌}
use Rattle.std.proofs.lemmas.Result.{err_from_is_err_and}
use Rattle.imap_grammar.proofs.Loops.{smaller, after_more, raw_fault}
use Rattle.imap_grammar.proofs.Positions.{further, raw_at}
use Rattle.imap_proto.specs.LogicalLines.{line_content, line_part}
use Rattle.imap_proto.proofs.LogicalLines.{part_takes}
use Rattle.imap_proto.proofs.logical_lines.line_content.Goals as goal

pub parts-smaller : goal.parts-smaller
parts-smaller c =
    let less : c.parts.q < c.in_ok-after.after = further c.args.m.now _ _ (smaller line_part (drop c.parts.q c.args.m.now) (drop c.in_ok-after.after c.args.m.now) _ (rw c.in-Some.is at c.in_ok-after.ensures.steps) part_takes) in
    omega (arith, less, c.in_ok-after.ensures.ahead)

pub parts-preserved : goal.parts-preserved
parts-preserved c =
    record {
      read = after_more line_part (drop c.args.p c.args.m.now) (drop c.parts.q c.args.m.now) (drop c.in_ok-after.after c.args.m.now) _ c.parts.invariant.read (rw c.in-Some.is at c.in_ok-after.ensures.steps) part_takes;
      ahead = omega (arith, c.in_ok-after.ensures.ahead, c.parts.invariant.ahead);
      within = c.in_ok-after.ensures.ahead.1;
    }

pub returns-in-None-clause-steps : goal.returns-in-None-clause-steps
unfolding line_content
returns-in-None-clause-steps c =
    raw_at line_part c.args.m.now c.args.p c.parts.q c.in_ok-after.after c.parts.invariant.ahead c.parts.invariant.within c.parts.invariant.read (rw c.in-None.is at c.in_ok-after.ensures.steps)

pub returns-in_err-after-clause-steps : goal.returns-in_err-after-clause-steps
unfolding line_content
returns-in_err-after-clause-steps c =
    let p = err_from_is_err_and c.from_residual.result c.from_residual.ensures.1 in
    rw (p.1, p.2) (raw_fault line_part (drop c.args.p c.args.m.now) (drop c.parts.q c.args.m.now) c.in_err-after.field-0.0 c.parts.invariant.read c.in_err-after.ensures.steps)
