use Rattle.std.proofs.Common.{inl, inr}
use Rattle.std.proofs.lemmas.Result.{err_from_is_err_and}
use Rattle.imap_proto.proofs.Memory.{starred_wants, behind_number}
use Rattle.imap_proto.proofs.Fronts.{begins_fetch}
use Rattle.imap_proto.proofs.kept.fetch_line.Goals as goal

pub returns-in_err-p-3-clause-failure : goal.returns-in_err-p-3-clause-failure
returns-in_err-p-3-clause-failure c =
    let r = err_from_is_err_and c.from_residual-in_err-p-3.result c.from_residual-in_err-p-3.ensures.1 in
    rw (r.1, r.2) (λ q. starred_wants _ _ _ c.in_ok-p.ensures.steps (inr (inl (behind_number _ _ _ c.in_ok-p-2.ensures.steps (c.in_err-p-3.ensures.failure q)))))

pub returns-in_err-p-3-clause-begins : goal.returns-in_err-p-3-clause-begins
returns-in_err-p-3-clause-begins c =
    let r = err_from_is_err_and c.from_residual-in_err-p-3.result c.from_residual-in_err-p-3.ensures.1 in
    rw (r.1, r.2) (λ q. begins_fetch _ _ _ _ _ c.in_ok-p.ensures.steps c.in_ok-p-2.ensures.steps (c.in_err-p-3.ensures.failure q))
