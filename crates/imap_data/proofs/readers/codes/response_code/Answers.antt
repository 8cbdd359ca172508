use Rattle.std.proofs.Common.{rules, refl}
use Rattle.imap_grammar.specs.Tags.{tag}
use Rattle.imap_grammar.proofs.Memory.{part_failed}
use Rattle.imap_data.specs.Codes.{response_code}
use Rattle.imap_data.proofs.Codes.{ordered_code}
use Rattle.imap_data.proofs.ListCodes.{list_code_failed}
use Rattle.imap_data.proofs.readers.codes.response_code.Goals as goal

pub returns-clause-steps : goal.returns-clause-steps
unfolding response_code
returns-clause-steps c =
    rw (c.in_ok-rest.ensures.steps, c.in_ok-rest-2.ensures.steps, c.in_ok-rest-3.ensures.steps) refl

pub returns-clause-ordered : goal.returns-clause-ordered
returns-clause-ordered c = ordered_code _ _ _ c.in_ok-rest-2.ensures.steps

pub returns-in_err-rest-clause-memory : goal.returns-in_err-rest-clause-memory
returns-in_err-rest-clause-memory c = part_failed _ (tag "[") _ c.in_err-rest.field-0.0 _ (search rules) c.in_err-rest.ensures.steps

pub returns-in_err-rest-2-clause-memory : goal.returns-in_err-rest-2-clause-memory
returns-in_err-rest-2-clause-memory c = list_code_failed _ _ _ c.in_err-rest-2.field-0.0 _ (search rules) c.in_ok-rest.ensures.steps c.in_err-rest-2.ensures.memory

pub returns-in_err-rest-3-clause-memory : goal.returns-in_err-rest-3-clause-memory
returns-in_err-rest-3-clause-memory c = part_failed _ (tag "]") _ c.in_err-rest-3.field-0.0 _ (search rules) c.in_err-rest-3.ensures.steps
