use Rattle.std.proofs.Common.{arith}
use Rattle.imap_proto.proofs.LogicalLines.{line_read}
use Rattle.imap_proto.proofs.logical_lines.line_at.Goals as goal

pub returns-clause-steps : goal.returns-clause-steps
returns-clause-steps c =
    line_read c.args.m.now c.args.p c.in_ok-q.q c.in_ok-q-2.q _ _ (omega (arith, c.in_ok-q.ensures.inside, c.in_ok-q-2.ensures.ahead)) c.in_ok-q-2.ensures.ahead.1 c.in_ok-q.ensures.steps c.in_ok-q-2.ensures.steps
