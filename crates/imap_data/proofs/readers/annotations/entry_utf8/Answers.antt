use Rattle.std.proofs.Common.{rules}
use Rattle.imap_grammar.proofs.Memory.{part_failed, holds_already, starts_with}
use Rattle.imap_data.specs.Annotations.{entry}
use Rattle.imap_data.proofs.readers.annotations.entry_utf8.Goals as goal

pub returns-in_err-rest-clause-memory : goal.returns-in_err-rest-clause-memory
returns-in_err-rest-clause-memory c = part_failed _ entry _ c.in_err-rest.field-0.0 _ (search rules) c.in_err-rest.ensures

pub returns-in_err-decode-clause-memory : goal.returns-in_err-decode-clause-memory
returns-in_err-decode-clause-memory c = holds_already _ c.from_residual-in_err-decode.result (starts_with entry _ _ _ c.in_ok-rest.ensures)
