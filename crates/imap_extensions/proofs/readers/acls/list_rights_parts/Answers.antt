use Rattle.std.proofs.Common.{refl}
use Rattle.imap_grammar.proofs.Memory.{holds_already, begins_word}
use Rattle.imap_extensions.specs.Acls.{list_rights}
use Rattle.imap_extensions.proofs.readers.acls.list_rights_parts.Goals as goal

pub returns-in_err-rest-3-clause-memory : goal.returns-in_err-rest-3-clause-memory
returns-in_err-rest-3-clause-memory c = holds_already _ c.from_residual-in_err-rest-3.result (begins_word "LISTRIGHTS" _ _ _ c.in_ok-rest.ensures.steps)

pub returns-in_err-rest-5-clause-memory : goal.returns-in_err-rest-5-clause-memory
returns-in_err-rest-5-clause-memory c = holds_already _ c.from_residual-in_err-rest-5.result (begins_word "LISTRIGHTS" _ _ _ c.in_ok-rest.ensures.steps)

pub returns-in_err-rest-7-clause-memory : goal.returns-in_err-rest-7-clause-memory
returns-in_err-rest-7-clause-memory c = holds_already _ c.from_residual-in_err-rest-7.result (begins_word "LISTRIGHTS" _ _ _ c.in_ok-rest.ensures.steps)

pub returns-in_err-rest-8-clause-memory : goal.returns-in_err-rest-8-clause-memory
returns-in_err-rest-8-clause-memory c = holds_already _ c.from_residual-in_err-rest-8.result (begins_word "LISTRIGHTS" _ _ _ c.in_ok-rest.ensures.steps)

pub returns-clause-steps : goal.returns-clause-steps
unfolding list_rights
returns-clause-steps c =
    rw (c.in_ok-rest.ensures.steps, c.in_ok-rest-2.ensures.steps, c.in_ok-rest-3.ensures.steps, c.in_ok-rest-4.ensures.steps, c.in_ok-rest-5.ensures.steps, c.in_ok-rest-6.ensures.steps, c.in_ok-rest-7.ensures.steps, c.in_ok-rest-8.ensures) refl
