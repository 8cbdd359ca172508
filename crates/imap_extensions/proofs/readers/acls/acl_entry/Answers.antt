use Rattle.std.proofs.Common.{rules}
use Rattle.imap_grammar.specs.Tags.{blanks1}
use Rattle.imap_grammar.proofs.Memory.{part_failed, holds_already, starts_with, fault_wants}
use Rattle.imap_bytes.specs.Texts.{astring_utf8}
use Rattle.imap_extensions.proofs.AclWants.{owned_starts}
use Rattle.imap_extensions.proofs.readers.acls.acl_entry.Goals as goal

pub returns-in_err-rest-clause-memory : goal.returns-in_err-rest-clause-memory
returns-in_err-rest-clause-memory c = fault_wants _ _ c.in_err-rest.field-0.0 _ (search rules) c.in_err-rest.ensures.memory (owned_starts _)

pub returns-in_err-rest-2-clause-memory : goal.returns-in_err-rest-2-clause-memory
returns-in_err-rest-2-clause-memory c = part_failed _ blanks1 _ c.in_err-rest-2.field-0.0 _ (search rules) c.in_err-rest-2.ensures.steps

pub returns-in_err-rest-3-clause-memory : goal.returns-in_err-rest-3-clause-memory
returns-in_err-rest-3-clause-memory c = holds_already _ c.from_residual-in_err-rest-3.result (starts_with astring_utf8 _ _ _ c.in_ok-rest.ensures.steps)
