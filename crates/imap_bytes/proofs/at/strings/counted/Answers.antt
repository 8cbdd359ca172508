use Rattle.std.proofs.Common.{arith}
use Rattle.std.proofs.lemmas.Grind.{common_steps}
use Rattle.imap_grammar.specs.Step.{take_step}
use Rattle.imap_grammar.proofs.Positions.{stepped}
use Rattle.imap_bytes.proofs.at.strings.counted.Goals as goal

pub returns-clause-steps : goal.returns-clause-steps
unfolding take_step
returns-clause-steps c = grind (arith, common_steps, stepped)

pub returns-then-left-count-clause-steps : goal.returns-then-left-count-clause-steps
unfolding take_step
returns-then-left-count-clause-steps c = grind (arith, common_steps, stepped)
