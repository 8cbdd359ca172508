use Rattle.std.proofs.Common.{rules, sym, subst}
use Rattle.imap_grammar.specs.Answer.{Gives}
use Rattle.imap_grammar.specs.Tags.{sp}
use Rattle.imap_grammar.proofs.Memory.{wants_behind}
use Rattle.imap_proto.specs.Memory.{OutcomeMayWant}
use Rattle.imap_proto.specs.Responses.{outcome_value}
use Rattle.imap_proto.proofs.Memory.{spaced_is, behind_space}
use Rattle.imap_proto.proofs.outcomes.spaced_outcome.Goals as goal

pub returns-in-Some-clause-steps : goal.returns-in-Some-clause-steps
returns-in-Some-clause-steps c =
    subst (λ s. Gives outcome_value c.outcome.result s) (sym (spaced_is c.args.i.now c.in-Some.rest.now c.in-Some.field-0-1.now (search rules))) c.outcome.ensures.steps

pub returns-in-Some-clause-memory : goal.returns-in-Some-clause-memory
returns-in-Some-clause-memory c = behind_space c.args.i.now c.in-Some.rest.now c.in-Some.field-0-1.now _ (search rules) c.outcome.ensures.memory

pub returns-in-Some-clause-failure : goal.returns-in-Some-clause-failure
returns-in-Some-clause-failure c = wants_behind OutcomeMayWant sp c.args.i.now c.in-Some.rest.now c.in-Some.field-0-1.now _ (search rules) c.outcome.ensures.failure
