use Rattle.imap_grammar.specs.Memory.{StartsWith}
use Rattle.imap_grammar.specs.Rule.{tag_by}
use Rattle.imap_grammar.specs.Tags.{same_letter}
use Rattle.imap_grammar.proofs.Memory.{wants_behind}
use Rattle.imap_data.specs.Counts.{found_number}
use Rattle.imap_data.proofs.readers.mailbox_data.found.Goals as goal

pub returns-clause-memory : goal.returns-clause-memory
returns-clause-memory c =
    wants_behind (StartsWith found_number) (tag_by same_letter c.args.text.now) _ _ _ c.found_numbers.result c.in_ok-rest.ensures.steps c.found_numbers.ensures.memory
