use Rattle.std.proofs.Common.{refl, sym, ◌∙◌}
use Rattle.std.proofs.lemmas.Result.{err_from_is_err_and}
use Rattle.imap_grammar.proofs.Agreement.{stops}
use Rattle.imap_grammar.proofs.Joins.{tried_fault, tried_none}
use Rattle.imap_grammar.proofs.Memory.{none_yielded}
use Rattle.imap_extensions.specs.Ids.{IsNil, id_params}
use Rattle.imap_extensions.proofs.NoParams.{list_failed}
use Rattle.imap_extensions.proofs.readers.ids.id_params.Goals as goal

pub returns-in_err-rest-clause-memory : goal.returns-in_err-rest-clause-memory
returns-in_err-rest-clause-memory c =
    let e = c.in_err-rest.field-0.0 in
    let was = tried_fault c.some_params.result e (sym c.tried.ensures ∙ c.in_err-rest.was) in
    list_failed _ e _ c.some_params.result _ was.0 was.1 c.some_params.ensures.steps c.some_params.ensures.memory

pub returns-in_err-rest-in-None-clause-steps : goal.returns-in_err-rest-in-None-clause-steps
unfolding id_params
returns-in_err-rest-in-None-clause-steps c =
    let r = err_from_is_err_and c.from_residual-in_err-rest-in-None.result c.from_residual-in_err-rest-in-None.ensures.1 in
    let was = tried_none c.some_params.result c.in_ok-rest.field-0 (sym c.tried.ensures ∙ c.in_ok-rest.was) c.in-None.is in
    let denied = rw was at c.some_params.ensures.steps in
    rw (r.1, r.2) (stops _ _ (rw (denied, c.in_err-rest-in-None.ensures.steps) refl))

pub returns-in_err-rest-in-None-clause-memory : goal.returns-in_err-rest-in-None-clause-memory
unfolding id_params
returns-in_err-rest-in-None-clause-memory c =
    let was = tried_none c.some_params.result c.in_ok-rest.field-0 (sym c.tried.ensures ∙ c.in_ok-rest.was) c.in-None.is in
    let denied = rw was at c.some_params.ensures.steps in
    none_yielded IsNil id_params c.args.i.now c.in_err-rest-in-None.field-0.0 _ (rw (denied, c.in_err-rest-in-None.ensures.steps) refl)
