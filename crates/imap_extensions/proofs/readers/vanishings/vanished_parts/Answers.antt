use Rattle.imap_grammar.proofs.Memory.{holds_already, begins_word}
use Rattle.imap_extensions.proofs.readers.vanishings.vanished_parts.Goals as goal

pub returns-in_err-rest-2-clause-memory : goal.returns-in_err-rest-2-clause-memory
returns-in_err-rest-2-clause-memory c = holds_already _ c.from_residual-in_err-rest-2.result (begins_word "VANISHED" _ _ _ c.in_ok-rest.ensures.steps)

pub returns-in_err-rest-4-clause-memory : goal.returns-in_err-rest-4-clause-memory
returns-in_err-rest-4-clause-memory c = holds_already _ c.from_residual-in_err-rest-4.result (begins_word "VANISHED" _ _ _ c.in_ok-rest.ensures.steps)
