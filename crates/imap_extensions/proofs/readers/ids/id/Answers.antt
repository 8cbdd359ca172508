use Rattle.imap_grammar.proofs.Memory.{holds_already, begins_word}
use Rattle.imap_extensions.proofs.readers.ids.id.Goals as goal

pub returns-clause-worded : goal.returns-clause-worded
returns-clause-worded c = holds_already _ c.id_params.result (begins_word "ID" _ _ _ c.in_ok-rest.ensures.steps)
