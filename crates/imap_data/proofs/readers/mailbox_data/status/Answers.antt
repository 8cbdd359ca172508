use Rattle.std.proofs.Common.{rules, refl}
use Rattle.imap_grammar.specs.Tags.{word, sp}
use Rattle.imap_grammar.proofs.Memory.{part_failed, fault_wants}
use Rattle.imap_data.specs.MailboxData.{status}
use Rattle.imap_data.proofs.Wants.{mailbox_wants, items_want}
use Rattle.imap_data.proofs.readers.mailbox_data.status.Goals as goal

pub returns-clause-steps : goal.returns-clause-steps
unfolding status
returns-clause-steps c =
    rw (c.in_ok-rest.ensures.steps, c.in_ok-rest-2.ensures.steps, c.in_ok-rest-3.ensures.steps, c.in_ok-rest-4.ensures.steps) refl

pub returns-in_err-rest-clause-memory : goal.returns-in_err-rest-clause-memory
returns-in_err-rest-clause-memory c = part_failed _ (word "STATUS ") _ c.in_err-rest.field-0.0 _ (search rules) c.in_err-rest.ensures.steps

pub returns-in_err-rest-2-clause-memory : goal.returns-in_err-rest-2-clause-memory
returns-in_err-rest-2-clause-memory c =
    fault_wants _ _ c.in_err-rest-2.field-0.0 _ (search rules) c.in_err-rest-2.ensures.memory (mailbox_wants _ _ _ c.in_ok-rest.ensures.steps)

pub returns-in_err-rest-3-clause-memory : goal.returns-in_err-rest-3-clause-memory
returns-in_err-rest-3-clause-memory c = part_failed _ sp _ c.in_err-rest-3.field-0.0 _ (search rules) c.in_err-rest-3.ensures.steps

pub returns-in_err-rest-4-clause-memory : goal.returns-in_err-rest-4-clause-memory
returns-in_err-rest-4-clause-memory c =
    fault_wants _ _ c.in_err-rest-4.field-0.0 _ (search rules) c.in_err-rest-4.ensures.memory
    (items_want _ _ _ _ _ _ _ c.in_ok-rest.ensures.steps c.in_ok-rest-2.ensures.steps c.in_ok-rest-3.ensures.steps)
