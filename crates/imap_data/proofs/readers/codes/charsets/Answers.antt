use Rattle.std.proofs.Common.{rules, refl}
use Rattle.imap_grammar.specs.Tags.{sp}
use Rattle.imap_grammar.proofs.Memory.{part_failed, holds_already, begins_tag}
use Rattle.imap_data.proofs.readers.codes.charsets.Goals as goal

pub returns-in_err-rest-clause-memory : goal.returns-in_err-rest-clause-memory
returns-in_err-rest-clause-memory c = part_failed _ sp _ c.in_err-rest.field-0.0 _ (search rules) c.in_err-rest.ensures.steps

pub returns-clause-memory : goal.returns-clause-memory
returns-clause-memory c = holds_already _ c.charset_list.result (begins_tag " " _ _ _ refl c.in_ok-rest.ensures.steps)
