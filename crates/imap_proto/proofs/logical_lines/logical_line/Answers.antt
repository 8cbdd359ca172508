use Rattle.imap_grammar.proofs.Memory.{exactly_never}
use Rattle.imap_proto.specs.LogicalLines.{logical_line}
use Rattle.imap_proto.proofs.LogicalLines.{never_denied}
use Rattle.imap_proto.proofs.logical_lines.logical_line.Goals as goal

pub returns-clause-not_denied : goal.returns-clause-not_denied
returns-clause-not_denied c = never_denied _ c.args.bytes.now c.sliced.result (c.sliced.ensures.steps _ c.line_at.ensures.steps)

pub returns-clause-no_failure : goal.returns-clause-no_failure
returns-clause-no_failure c = exactly_never _ logical_line c.args.bytes.now c.sliced.result (c.sliced.ensures.steps _ c.line_at.ensures.steps)
