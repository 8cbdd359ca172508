use Rattle.std.proofs.Common.{rules}
use Rattle.imap_grammar.specs.Lists.{opened}
use Rattle.imap_grammar.specs.Memory.{StartsWith}
use Rattle.imap_grammar.specs.Tags.{word}
use Rattle.imap_shared.specs.Flags.{flag_text}
use Rattle.imap_grammar.proofs.Memory.{fault_wants, stands_behind}
use Rattle.imap_data.proofs.readers.mailbox_data.flags.Goals as goal

pub returns-in_err-rest-2-clause-memory : goal.returns-in_err-rest-2-clause-memory
returns-in_err-rest-2-clause-memory c =
    fault_wants _ _ c.in_err-rest-2.field-0.0 _ (search rules) c.in_err-rest-2.ensures.memory (stands_behind (StartsWith (opened flag_text)) (word "FLAGS ") _ _ _ c.in_ok-rest.ensures.steps)
