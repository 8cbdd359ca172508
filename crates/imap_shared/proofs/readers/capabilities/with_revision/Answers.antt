use Rattle.std.proofs.Common.{rules, refl, ◌≡◌, true, false}
use Rattle.std.specs.List.{list_any}
use Rattle.imap_grammar.specs.Tags.{word}
use Rattle.imap_grammar.proofs.Memory.{part_failed, holds_already, begins_word}
use Rattle.imap_shared.specs.Capabilities.{capability_data, capability_value, is_revision}
use Rattle.imap_shared.proofs.Capabilities.{any_of_values}
use Rattle.imap_shared.proofs.readers.capabilities.with_revision.Goals as goal

pub returns-in_err-rest-clause-memory : goal.returns-in_err-rest-clause-memory
returns-in_err-rest-clause-memory c = part_failed _ (word "CAPABILITY") _ c.in_err-rest.field-0.0 _ (search rules) c.in_err-rest.ensures.steps

pub returns-in_err-rest-2-clause-memory : goal.returns-in_err-rest-2-clause-memory
returns-in_err-rest-2-clause-memory c = holds_already _ c.from_residual-in_err-rest-2.result (begins_word "CAPABILITY" _ _ _ c.in_ok-rest.ensures.steps)

pub returns-clause-steps : goal.returns-clause-steps
unfolding capability_data
returns-clause-steps c =
    let among : list_any (λ x. is_revision (capability_value x)) c.in_ok-rest-2.items.items ≡ true = search rules in
    rw (c.in_ok-rest.ensures.steps, c.in_ok-rest-2.ensures, any_of_values c.in_ok-rest-2.items.items, among) refl

pub returns-then-not-has_revision-clause-steps : goal.returns-then-not-has_revision-clause-steps
unfolding capability_data
returns-then-not-has_revision-clause-steps c =
    let among : list_any (λ x. is_revision (capability_value x)) c.in_ok-rest-2.items.items ≡ false = search rules in
    rw (c.in_ok-rest.ensures.steps, c.in_ok-rest-2.ensures, any_of_values c.in_ok-rest-2.items.items, among) refl
