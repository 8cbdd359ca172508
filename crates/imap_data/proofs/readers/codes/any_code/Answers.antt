use Rattle.imap_grammar.proofs.Memory.{exactly_fails}
use Rattle.imap_data.specs.Codes.{code_value, highest_mod_seq, metadata_code, code_of_r, code_of_t, code_of_u}
use Rattle.imap_data.proofs.readers.codes.any_code.Goals as goal

pub returns-in-Some-eq117-clause-memory : goal.returns-in-Some-eq117-clause-memory
returns-in-Some-eq117-clause-memory c = exactly_fails _ code_value code_of_u _ _ c.code_of_u.ensures

pub returns-in-Some-eq116-clause-memory : goal.returns-in-Some-eq116-clause-memory
returns-in-Some-eq116-clause-memory c = exactly_fails _ code_value code_of_t _ _ c.code_of_t.ensures

pub returns-in-Some-eq114-clause-memory : goal.returns-in-Some-eq114-clause-memory
returns-in-Some-eq114-clause-memory c = exactly_fails _ code_value code_of_r _ _ c.code_of_r.ensures

pub returns-in-Some-eq109-clause-memory : goal.returns-in-Some-eq109-clause-memory
returns-in-Some-eq109-clause-memory c = exactly_fails _ code_value metadata_code _ _ c.metadata_code.ensures

pub returns-in-Some-eq104-clause-memory : goal.returns-in-Some-eq104-clause-memory
returns-in-Some-eq104-clause-memory c = exactly_fails _ code_value highest_mod_seq _ _ c.highest_mod_seq.ensures
