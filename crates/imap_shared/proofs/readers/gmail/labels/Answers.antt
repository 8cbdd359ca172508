use Rattle.std.proofs.Common.{rules}
use Rattle.imap_grammar.specs.Tags.{word}
use Rattle.imap_grammar.proofs.Memory.{part_failed, holds_already, begins_word}
use Rattle.imap_shared.proofs.readers.gmail.labels.Goals as goal

pub returns-in_err-p-clause-memory : goal.returns-in_err-p-clause-memory
returns-in_err-p-clause-memory c = part_failed _ (word "X-GM-LABELS ") _ c.in_err-p.field-0.0 _ (search rules) c.in_err-p.ensures.steps

pub returns-in_err-p-2-clause-memory : goal.returns-in_err-p-2-clause-memory
returns-in_err-p-2-clause-memory c = holds_already _ c.from_residual-in_err-p-2.result (begins_word "X-GM-LABELS " _ _ _ c.in_ok-p.ensures.steps)
