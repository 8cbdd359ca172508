use Rattle.std.proofs.Common.{rules, refl, sym, ◌∙◌}
use Rattle.imap_grammar.proofs.Joins.{tried_none}
use Rattle.imap_grammar.proofs.Memory.{wider, words_on, tried_fails}
use Rattle.imap_data.specs.Codes.{bad_charset}
use Rattle.imap_data.proofs.readers.codes.bad_charset.Goals as goal

pub returns-in_err-rest-2-clause-memory : goal.returns-in_err-rest-2-clause-memory
returns-in_err-rest-2-clause-memory c =
    let behind = wider _ _ c.charsets.result (words_on "BADCHARSET " "BADCHARSET" " " _ _ _ refl c.in_ok-rest.ensures.steps) c.charsets.ensures.memory in
    tried_fails _ c.charsets.result c.tried.result c.in_err-rest-2.field-0.0 _ (search rules) c.tried.ensures c.in_err-rest-2.was behind

pub returns-in-None-clause-steps : goal.returns-in-None-clause-steps
unfolding bad_charset
returns-in-None-clause-steps c =
    let is = tried_none c.charsets.result c.in_ok-rest-2.field-0 (sym c.tried.ensures ∙ c.in_ok-rest-2.was) c.in-None.is in
    let denied = rw is at c.charsets.ensures.steps in
    rw (c.in_ok-rest.ensures.steps, denied) refl
