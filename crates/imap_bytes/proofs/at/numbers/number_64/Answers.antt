use Rattle.std.proofs.Common.{◌^◌}
use Rattle.imap_grammar.specs.Step.{step}
use Rattle.imap_grammar.proofs.Agreement.{exact_answer_at}
use Rattle.imap_grammar.proofs.Positions.{found_further}
use Rattle.imap_bytes.specs.Numbers.{number_64}
use Rattle.imap_bytes.proofs.Digits.{number_waits, no_number, number_read, number_none}
use Rattle.imap_bytes.proofs.at.numbers.number_64.Goals as goal

pub returns-in-None-clause-steps : goal.returns-in-None-clause-steps
unfolding number_64
returns-in-None-clause-steps c = rw (← c.split_at.ensures.back) (number_waits (2 ^ 64) c.split_at.result.1.now c.in-None.ensures.at)

pub returns-in-None-clause-answer : goal.returns-in-None-clause-answer
returns-in-None-clause-answer c = exact_answer_at _ _ _ _ _ (returns-in-None-clause-steps c)

pub returns-in-Some-eq0-default-clause-steps : goal.returns-in-Some-eq0-default-clause-steps
unfolding number_64
returns-in-Some-eq0-default-clause-steps c = rw (← c.split_at.ensures.back) (no_number (2 ^ 64) c.split_at.result.1.now (rw c.in-Some-eq0-default.field-0-0-test at c.in-Some-eq0-default.ensures.at.1))

pub returns-in-Some-eq0-default-clause-answer : goal.returns-in-Some-eq0-default-clause-answer
returns-in-Some-eq0-default-clause-answer c = exact_answer_at _ _ _ _ _ (returns-in-Some-eq0-default-clause-steps c)

pub returns-in-Some-default-None-clause-steps : goal.returns-in-Some-default-None-clause-steps
unfolding number_64
returns-in-Some-default-None-clause-steps c =
    let none = c.in-Some-default-None in
    rw (← c.split_at.ensures.back) (number_none (2 ^ 64) c.split_at.result.1.now none.field-0-0 none.field-0-1 none.field-0-1-is none.field-0-0-test.1 none.ensures.within none.ensures.at)

pub returns-in-Some-default-None-clause-answer : goal.returns-in-Some-default-None-clause-answer
returns-in-Some-default-None-clause-answer c = exact_answer_at _ _ _ _ _ (returns-in-Some-default-None-clause-steps c)

pub returns-in-Some-default-Some-clause-steps : goal.returns-in-Some-default-Some-clause-steps
unfolding number_64
returns-in-Some-default-Some-clause-steps c =
    let some = c.in-Some-default-Some in
    found_further (step number_64) c.args.m.now c.split_at.result.1.now c.args.p some.count some.n c.split_at.ensures.back
    (number_read (2 ^ 64) c.split_at.result.1.now some.count some.field-0-1 some.n some.field-0-1-is some.count-test.1 some.ensures.within some.ensures.at)

pub returns-in-Some-default-Some-clause-answer : goal.returns-in-Some-default-Some-clause-answer
returns-in-Some-default-Some-clause-answer c = exact_answer_at _ _ _ _ _ (returns-in-Some-default-Some-clause-steps c)
