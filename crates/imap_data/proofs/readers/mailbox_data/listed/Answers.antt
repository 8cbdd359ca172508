use Rattle.std.proofs.Common.{rules}
use Rattle.imap_grammar.specs.Rule.{tag_by}
use Rattle.imap_grammar.specs.Tags.{same_letter}
use Rattle.imap_grammar.proofs.Memory.{fault_wants, stands_behind}
use Rattle.imap_data.specs.Names.{ListMayWant}
use Rattle.imap_data.proofs.readers.mailbox_data.listed.Goals as goal

pub returns-in_err-p-2-clause-memory : goal.returns-in_err-p-2-clause-memory
returns-in_err-p-2-clause-memory c =
    fault_wants _ _ c.in_err-p-2.field-0.0 _ (search rules) c.in_err-p-2.ensures.memory (stands_behind ListMayWant (tag_by same_letter c.args.text.now) _ _ _ c.in_ok-p.ensures.steps)
