use Rattle.std.proofs.Common.{◌≡◌, ◌≤◌, Some, length, refl, rules, subst}
use Rattle.imap_grammar.specs.Text.{Bytes}
use Rattle.imap_proto.proofs.Skipping.{line_rest_fewer, line_dropped, none_dropped, dropped_passes, dropped_fewer}
use Rattle.imap_proto.proofs.stream.Feed.skip_line.Goals as goal

pub settle-requires : goal.settle-requires
settle-requires c =
    let fewer = line_rest_fewer c.held.result.now c.in-Ok.rest.now c.in-Ok.line.now c.in-Ok.ensures.steps in
    subst (λ (m : Bytes). length c.in-Ok.rest.now ≤ length m) c.held.ensures fewer

pub returns-in-Ok-clause-drops : goal.returns-in-Ok-clause-drops
returns-in-Ok-clause-drops c =
    let is : c.unwrap_or.result ≡ Some (length c.in-Ok.line.now) = search rules depth 2 in
    rw is (line_dropped _ _ _ _ _ _ (rw c.held.ensures at c.in-Ok.ensures.steps) refl refl c.settle.ensures.1)

pub returns-in-Ok-clause-passes : goal.returns-in-Ok-clause-passes
returns-in-Ok-clause-passes c = dropped_passes _ _ c.unwrap_or.result (returns-in-Ok-clause-drops c)

pub returns-in-Ok-clause-fewer : goal.returns-in-Ok-clause-fewer
returns-in-Ok-clause-fewer c = dropped_fewer _ _ c.unwrap_or.result (returns-in-Ok-clause-drops c)

pub returns-in-Err-clause-drops : goal.returns-in-Err-clause-drops
returns-in-Err-clause-drops c = none_dropped c.args.self.now c.in-Err.field-0 (rw c.held.ensures at c.in-Err.ensures.steps)
