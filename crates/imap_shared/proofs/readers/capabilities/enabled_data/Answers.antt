use Rattle.std.proofs.Common.{rules}
use Rattle.imap_grammar.specs.Tags.{word}
use Rattle.imap_grammar.proofs.Memory.{part_failed, holds_already, begins_word}
use Rattle.imap_shared.proofs.readers.capabilities.enabled_data.Goals as goal

pub returns-in_err-rest-clause-memory : goal.returns-in_err-rest-clause-memory
returns-in_err-rest-clause-memory c = part_failed _ (word "ENABLED") _ c.in_err-rest.field-0.0 _ (search rules) c.in_err-rest.ensures.steps

pub returns-clause-memory : goal.returns-clause-memory
returns-clause-memory c = holds_already _ c.spaced_names.result (begins_word "ENABLED" _ _ _ c.in_ok-rest.ensures.steps)
