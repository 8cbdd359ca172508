use Rattle.std.proofs.Common.{rules}
use Rattle.imap_grammar.specs.Tags.{word}
use Rattle.imap_grammar.proofs.Memory.{part_failed, holds_already, begins_word}
use Rattle.imap_data.proofs.readers.codes.append_uid.Goals as goal

pub returns-in_err-rest-clause-memory : goal.returns-in_err-rest-clause-memory
returns-in_err-rest-clause-memory c = part_failed _ (word "APPENDUID ") _ c.in_err-rest.field-0.0 _ (search rules) c.in_err-rest.ensures.steps

pub returns-in_err-rest-2-clause-memory : goal.returns-in_err-rest-2-clause-memory
returns-in_err-rest-2-clause-memory c = holds_already _ c.from_residual-in_err-rest-2.result (begins_word "APPENDUID " _ _ _ c.in_ok-rest.ensures.steps)

pub returns-in_err-rest-3-clause-memory : goal.returns-in_err-rest-3-clause-memory
returns-in_err-rest-3-clause-memory c = holds_already _ c.from_residual-in_err-rest-3.result (begins_word "APPENDUID " _ _ _ c.in_ok-rest.ensures.steps)

pub returns-in_err-rest-4-clause-memory : goal.returns-in_err-rest-4-clause-memory
returns-in_err-rest-4-clause-memory c = holds_already _ c.from_residual-in_err-rest-4.result (begins_word "APPENDUID " _ _ _ c.in_ok-rest.ensures.steps)
