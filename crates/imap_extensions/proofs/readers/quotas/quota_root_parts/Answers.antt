use Rattle.std.proofs.Common.{refl}
use Rattle.imap_grammar.proofs.Memory.{holds_already, begins_word}
use Rattle.imap_extensions.specs.Quotas.{quota_root}
use Rattle.imap_extensions.proofs.readers.quotas.quota_root_parts.Goals as goal

pub returns-in_err-rest-3-clause-memory : goal.returns-in_err-rest-3-clause-memory
returns-in_err-rest-3-clause-memory c = holds_already _ c.from_residual-in_err-rest-3.result (begins_word "QUOTAROOT" _ _ _ c.in_ok-rest.ensures.steps)

pub returns-in_err-rest-4-clause-memory : goal.returns-in_err-rest-4-clause-memory
returns-in_err-rest-4-clause-memory c = holds_already _ c.from_residual-in_err-rest-4.result (begins_word "QUOTAROOT" _ _ _ c.in_ok-rest.ensures.steps)

pub returns-clause-steps : goal.returns-clause-steps
unfolding quota_root
returns-clause-steps c =
    rw (c.in_ok-rest.ensures.steps, c.in_ok-rest-2.ensures.steps, c.in_ok-rest-3.ensures.steps, c.in_ok-rest-4.ensures) refl
