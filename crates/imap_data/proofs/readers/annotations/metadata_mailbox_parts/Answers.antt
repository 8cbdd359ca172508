use Rattle.std.proofs.Common.{rules, refl}
use Rattle.std.proofs.lemmas.Result.{err_from_is_err_and}
use Rattle.imap_grammar.proofs.Agreement.{stops}
use Rattle.imap_data.specs.Annotations.{metadata_mailbox}
use Rattle.imap_data.proofs.Annotations.{mailbox_fails}
use Rattle.imap_data.proofs.readers.annotations.metadata_mailbox_parts.Goals as goal

pub returns-in_err-rest-2-clause-memory : goal.returns-in_err-rest-2-clause-memory
returns-in_err-rest-2-clause-memory c = mailbox_fails _ _ _ c.in_err-rest-2.field-0.0 c.quoted_utf8.result _ (search rules) c.in_err-rest-2.was c.in_ok-rest.ensures.steps c.quoted_utf8.ensures.memory

pub returns-in_err-rest-3-clause-steps : goal.returns-in_err-rest-3-clause-steps
unfolding metadata_mailbox
returns-in_err-rest-3-clause-steps c =
    let r = err_from_is_err_and c.from_residual-in_err-rest-3.result c.from_residual-in_err-rest-3.ensures.1 in
    rw (r.1, r.2) (stops _ _ (rw (c.in_ok-rest.ensures.steps, c.in_ok-rest-2.ensures.steps, c.in_err-rest-3.ensures.steps) refl))

pub returns-clause-steps : goal.returns-clause-steps
unfolding metadata_mailbox
returns-clause-steps c =
    rw (c.in_ok-rest.ensures.steps, c.in_ok-rest-2.ensures.steps, c.in_ok-rest-3.ensures.steps) refl
