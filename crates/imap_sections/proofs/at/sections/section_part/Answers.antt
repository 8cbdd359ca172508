use Rattle.std.proofs.Common.{refl, arith, ◌<◌, sym, ◌∙◌}
use Rattle.std.proofs.Math.Nat.{le_trans}
use Rattle.std.proofs.lemmas.Result.{err_from_is_err_and}
use Rattle.imap_grammar.specs.Rule.{◌▹◌}
use Rattle.imap_grammar.specs.Tags.{tag}
use Rattle.imap_grammar.proofs.Agreement.{stops}
use Rattle.imap_bytes.specs.Numbers.{number}
use Rattle.imap_sections.specs.Sections.{section_part}
use Rattle.imap_grammar.proofs.Joins.{tried_some, tried_none, tried_fault}
use Rattle.imap_envelopes.proofs.Gathering.{first, next_one, all, stopped, onward}
use Rattle.imap_grammar.proofs.Memory.{holds_already}
use Rattle.imap_sections.proofs.Memory.{begins_digit}
use Rattle.imap_sections.proofs.at.sections.section_part.Goals as goal

pub numbers-init : goal.numbers-init
numbers-init c = record {
  gathered = rw c.in_ok-items.ensures (first number (tag "." ▹ number) _ _ _ c.in_ok-q.ensures.steps);
  ahead = c.in_ok-q.ensures.ahead.0;
  within = c.in_ok-q.ensures.ahead.1;
}

pub numbers-smaller : goal.numbers-smaller
numbers-smaller c =
    let is = tried_some _ _ _ (sym c.tried.ensures ∙ c.in_ok-after.was) c.in-Some.is in
    let less : c.numbers.q < c.in-Some.after = onward (tag "." ▹ number) c.args.m.now _ _ _ (rw is at c.dotted_number.ensures.steps) refl in
    omega (arith, less, rw is at c.dotted_number.ensures.ahead)

pub numbers-preserved : goal.numbers-preserved
numbers-preserved c =
    let is = tried_some _ _ _ (sym c.tried.ensures ∙ c.in_ok-after.was) c.in-Some.is in
    let far = rw is at c.dotted_number.ensures.ahead in
    record {
      gathered = rw c.in_ok-push.ensures.items (next_one _ (tag "." ▹ number) _ _ _ _ c.numbers.invariant.gathered (rw is at c.dotted_number.ensures.steps) refl);
      ahead = le_trans c.numbers.invariant.ahead far.0;
      within = far.1;
    }

pub returns-clause-steps : goal.returns-clause-steps
unfolding section_part
returns-clause-steps c =
    let is = tried_none _ _ (sym c.tried.ensures ∙ c.in_ok-after.was) c.in_default.is in
    all _ (tag "." ▹ number) _ _ c.numbers.invariant.gathered (rw is at c.dotted_number.ensures.steps)

pub returns-in_err-after-clause-steps : goal.returns-in_err-after-clause-steps
unfolding section_part
returns-in_err-after-clause-steps c =
    let p = err_from_is_err_and c.from_residual-in_err-after.result c.from_residual-in_err-after.ensures.1 in
    let q = tried_fault _ _ (sym c.tried.ensures ∙ c.in_err-after.was) in
    rw (p.1, p.2) (stops _ _ (stopped _ (tag "." ▹ number) _ _ c.in_err-after.field-0.0 c.numbers.invariant.gathered q.1 (rw q.0 at c.dotted_number.ensures.steps)))

pub returns-in_err-items-clause-memory : goal.returns-in_err-items-clause-memory
returns-in_err-items-clause-memory c = holds_already _ c.from_residual-in_err-items.result (begins_digit _ _ _ c.in_ok-q.ensures.steps)

pub returns-in_err-after-clause-memory : goal.returns-in_err-after-clause-memory
returns-in_err-after-clause-memory c = holds_already _ c.from_residual-in_err-after.result (begins_digit _ _ _ c.in_ok-q.ensures.steps)

pub returns-in_err-push-clause-memory : goal.returns-in_err-push-clause-memory
returns-in_err-push-clause-memory c = holds_already _ c.from_residual-in_err-push.result (begins_digit _ _ _ c.in_ok-q.ensures.steps)
