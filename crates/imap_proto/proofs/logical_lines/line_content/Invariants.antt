use Rattle.std.proofs.Common.{drop, length, ◌≤◌, ◌-◌}
use Rattle.imap_grammar.proofs.Loops.{After}
use Rattle.imap_proto.specs.LogicalLines.{line_part}
use Rattle.imap_proto.proofs.logical_lines.line_content.Given as goal

abbrev pub invariant-parts : goal.invariant-parts
invariant-parts l = record { read : After line_part (drop l.p l.m) (drop l.q l.m); ahead : l.p ≤ l.q; within : l.q ≤ length l.m }

abbrev pub decreases-parts : goal.decreases-parts
decreases-parts l = length l.m - l.q
