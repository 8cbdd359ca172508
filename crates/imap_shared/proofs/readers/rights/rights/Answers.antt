use Rattle.std.proofs.Common.{rules}
use Rattle.imap_grammar.proofs.Memory.{holds_already}
use Rattle.imap_shared.proofs.Rights.{rights_start, text_failed}
use Rattle.imap_shared.proofs.readers.rights.rights.Goals as goal

pub returns-in_err-rest-clause-memory : goal.returns-in_err-rest-clause-memory
returns-in_err-rest-clause-memory c = text_failed _ c.in_err-rest.field-0.0 _ _ c.in_err-rest.was (search rules) c.astring_utf8.ensures.memory

pub returns-in_err-found-clause-memory : goal.returns-in_err-found-clause-memory
returns-in_err-found-clause-memory c = holds_already _ c.from_residual-in_err-found.result (rights_start _ _ _ c.in_ok-rest.ensures.steps)
