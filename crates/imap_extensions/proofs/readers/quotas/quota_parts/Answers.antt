use Rattle.imap_grammar.proofs.Memory.{holds_already, begins_word}
use Rattle.imap_extensions.proofs.readers.quotas.quota_parts.Goals as goal

pub returns-in_err-rest-3-clause-memory : goal.returns-in_err-rest-3-clause-memory
returns-in_err-rest-3-clause-memory c = holds_already _ c.from_residual-in_err-rest-3.result (begins_word "QUOTA" _ _ _ c.in_ok-rest.ensures.steps)

pub returns-in_err-rest-5-clause-memory : goal.returns-in_err-rest-5-clause-memory
returns-in_err-rest-5-clause-memory c = holds_already _ c.from_residual-in_err-rest-5.result (begins_word "QUOTA" _ _ _ c.in_ok-rest.ensures.steps)
