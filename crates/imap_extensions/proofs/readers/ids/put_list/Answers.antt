use Rattle.std.proofs.Common.{refl}
use Rattle.imap_grammar.proofs.Memory.{holds_already, begins_tag}
use Rattle.imap_extensions.proofs.readers.ids.put_list.Goals as goal

pub returns-in_err-rest-2-clause-memory : goal.returns-in_err-rest-2-clause-memory
returns-in_err-rest-2-clause-memory c = holds_already _ c.from_residual-in_err-rest-2.result (begins_tag "(" _ _ _ refl c.in_ok-rest.ensures.steps)
