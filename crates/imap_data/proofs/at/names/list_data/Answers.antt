use Rattle.std.proofs.Common.{rules, refl, inl}
use Rattle.imap_grammar.specs.Tags.{sp}
use Rattle.imap_grammar.proofs.Memory.{part_failed, fault_wants}
use Rattle.imap_data.specs.Names.{list_data}
use Rattle.imap_data.proofs.Wants.{delimiter_wants, name_wants}
use Rattle.imap_data.proofs.at.names.list_data.Goals as goal

pub returns-clause-steps : goal.returns-clause-steps
unfolding list_data
returns-clause-steps c =
    rw (c.in_ok-p.ensures.reads.0, c.in_ok-p-2.ensures.steps, c.in_ok-p-3.ensures.reads.0, c.in_ok-p-4.ensures.steps, c.in_ok-p-5.ensures.reads.0) refl

pub returns-in_err-p-clause-memory : goal.returns-in_err-p-clause-memory
returns-in_err-p-clause-memory c = fault_wants _ _ c.in_err-p.field-0.0 _ (search rules) c.in_err-p.ensures.memory (λ p. inl p)

pub returns-in_err-p-2-clause-memory : goal.returns-in_err-p-2-clause-memory
returns-in_err-p-2-clause-memory c = part_failed _ sp _ c.in_err-p-2.field-0.0 _ (search rules) c.in_err-p-2.ensures.steps

pub returns-in_err-p-3-clause-memory : goal.returns-in_err-p-3-clause-memory
returns-in_err-p-3-clause-memory c =
    fault_wants _ _ c.in_err-p-3.field-0.0 _ (search rules) c.in_err-p-3.ensures.memory (delimiter_wants _ _ _ _ _ c.in_ok-p.ensures.reads.0 c.in_ok-p-2.ensures.steps)

pub returns-in_err-p-4-clause-memory : goal.returns-in_err-p-4-clause-memory
returns-in_err-p-4-clause-memory c = part_failed _ sp _ c.in_err-p-4.field-0.0 _ (search rules) c.in_err-p-4.ensures.steps

pub returns-in_err-p-5-clause-memory : goal.returns-in_err-p-5-clause-memory
returns-in_err-p-5-clause-memory c =
    fault_wants _ _ c.in_err-p-5.field-0.0 _ (search rules) c.in_err-p-5.ensures.memory
    (name_wants _ _ _ _ _ _ _ _ _ c.in_ok-p.ensures.reads.0 c.in_ok-p-2.ensures.steps c.in_ok-p-3.ensures.reads.0 c.in_ok-p-4.ensures.steps)
