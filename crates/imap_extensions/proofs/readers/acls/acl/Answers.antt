use Rattle.std.proofs.Common.{rules, refl}
use Rattle.imap_grammar.specs.Tags.{word, blanks0, blanks1}
use Rattle.imap_grammar.proofs.Agreement.{answered}
use Rattle.imap_grammar.proofs.Memory.{part_failed, fault_wants}
use Rattle.imap_extensions.specs.Acls.{acl}
use Rattle.imap_extensions.proofs.AclWants.{mailbox_wants, entries_want}
use Rattle.imap_extensions.proofs.readers.acls.acl.Goals as goal

pub returns-in_err-rest-clause-memory : goal.returns-in_err-rest-clause-memory
returns-in_err-rest-clause-memory c = part_failed _ (word "ACL") _ c.in_err-rest.field-0.0 _ (search rules) c.in_err-rest.ensures.steps

pub returns-in_err-rest-2-clause-memory : goal.returns-in_err-rest-2-clause-memory
returns-in_err-rest-2-clause-memory c = part_failed _ blanks1 _ c.in_err-rest-2.field-0.0 _ (search rules) c.in_err-rest-2.ensures.steps

pub returns-in_err-rest-3-clause-memory : goal.returns-in_err-rest-3-clause-memory
returns-in_err-rest-3-clause-memory c =
    fault_wants _ _ c.in_err-rest-3.field-0.0 _ (search rules) c.in_err-rest-3.ensures.memory (mailbox_wants _ _ _ _ _ c.in_ok-rest.ensures.steps c.in_ok-rest-2.ensures.steps)

pub returns-in_err-rest-4-clause-memory : goal.returns-in_err-rest-4-clause-memory
returns-in_err-rest-4-clause-memory c = part_failed _ blanks0 _ c.in_err-rest-4.field-0.0 _ (search rules) c.in_err-rest-4.ensures.steps

pub returns-in_err-rest-5-clause-memory : goal.returns-in_err-rest-5-clause-memory
returns-in_err-rest-5-clause-memory c =
    fault_wants _ _ c.in_err-rest-5.field-0.0 _ (search rules) c.in_err-rest-5.ensures.memory
    (entries_want _ _ _ _ _ _ _ _ _ c.in_ok-rest.ensures.steps c.in_ok-rest-2.ensures.steps c.in_ok-rest-3.ensures.steps c.in_ok-rest-4.ensures.steps)

pub returns-clause-steps : goal.returns-clause-steps
unfolding acl
returns-clause-steps c =
    rw (c.in_ok-rest.ensures.steps, c.in_ok-rest-2.ensures.steps, c.in_ok-rest-3.ensures.steps, c.in_ok-rest-4.ensures.steps, c.in_ok-rest-5.ensures.steps) refl

pub returns-clause-answer : goal.returns-clause-answer
returns-clause-answer c = answered _ _ _ _ (returns-clause-steps c)
