use Rattle.std.proofs.Common.{rules}
use Rattle.imap_grammar.specs.Tags.{word}
use Rattle.imap_grammar.proofs.Memory.{part_failed, holds_already, begins_word}
use Rattle.imap_proto.proofs.fetched.fetched.Goals as goal

pub returns-in_err-p-clause-failure : goal.returns-in_err-p-clause-failure
returns-in_err-p-clause-failure g c = part_failed _ (word " FETCH ") _ c.in_err-p.field-0.0 _ (search rules) c.in_err-p.ensures.steps

pub returns-in_err-p-2-clause-failure : goal.returns-in_err-p-2-clause-failure
returns-in_err-p-2-clause-failure g c = holds_already _ c.from_residual-in_err-p-2.result (begins_word " FETCH " _ _ _ c.in_ok-p.ensures.steps)
