use Rattle.std.proofs.lemmas.Result.{err_from_is_err_and}
use Rattle.imap_shared.specs.Flags.{flag_list}
use Rattle.imap_body.proofs.Placing.{placed}
use Rattle.imap_body.proofs.keep.ValuesKeepAttribute.flags.Goals as goal

pub split_at-requires : goal.split_at-requires
split_at-requires c = rw c.requires.serves c.requires.start

pub returns-in_err-rest-clause-steps : goal.returns-in_err-rest-clause-steps
returns-in_err-rest-clause-steps c =
    let p = err_from_is_err_and c.from_residual.result c.from_residual.ensures.1 in
    rw (p.1, p.2) (rw (c.split_at.ensures.back, c.requires.serves) at c.in_err-rest.ensures.steps)

pub overflow_sub-result : goal.overflow_sub-result
overflow_sub-result c = (placed flag_list _ _ _ c.args.p _ c.requires.serves c.requires.start (rw c.split_at.ensures.back at c.in_ok-rest.ensures.steps)).0

pub returns-clause-steps : goal.returns-clause-steps
returns-clause-steps c = (placed flag_list _ _ _ c.args.p _ c.requires.serves c.requires.start (rw c.split_at.ensures.back at c.in_ok-rest.ensures.steps)).1

pub returns-clause-ahead : goal.returns-clause-ahead
returns-clause-ahead c =
    let at = placed flag_list _ _ _ c.args.p _ c.requires.serves c.requires.start (rw c.split_at.ensures.back at c.in_ok-rest.ensures.steps) in
    (at.2, at.3)
