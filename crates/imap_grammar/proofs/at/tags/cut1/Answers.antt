use Rattle.std.proofs.Common.{sym, ap, ◌∙◌, ◌≡◌, ◌<◌, ◌+◌, length, drop, Some, Option, ℕ}
use Rattle.imap_grammar.proofs.Runs.{run1_none, run1_first}
use Rattle.imap_grammar.proofs.Positions.{run1_at}
use Rattle.imap_grammar.proofs.at.tags.cut1.Goals as goal

abbrev some : ℕ → Option ℕ
some n = Some n

pub returns-in-None-clause-steps : goal.returns-in-None-clause-steps
returns-in-None-clause-steps c = λ class e. run1_none class (drop c.args.p c.args.m.now) (sym c.in-None.is ∙ e)

pub returns-in-Some-eq0-clause-steps : goal.returns-in-Some-eq0-clause-steps
returns-in-Some-eq0-clause-steps c =
    let none : c.in-Some-eq0.field-0 ≡ 0 = rw c.in-Some-eq0.field-0-is at c.in-Some-eq0.field-0-test in
    λ class e. run1_first class (drop c.args.p c.args.m.now) (ap some (sym none) ∙ sym c.in-Some-eq0.is ∙ e)

pub returns-in-Some-clause-steps : goal.returns-in-Some-clause-steps
returns-in-Some-clause-steps c =
    let within : c.args.p + c.in-Some.n < length c.args.m.now = c.requires c.in-Some.n c.in-Some.is in
    λ class e. run1_at class c.args.m.now c.args.p c.in-Some.n (rw c.in-Some.is at c.in-Some.n-test.1) within (sym c.in-Some.is ∙ e)
