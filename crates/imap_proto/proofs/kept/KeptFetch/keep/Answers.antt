use Rattle.std.proofs.Common.{refl, sym, ◌∙◌}
use Rattle.std.proofs.lemmas.Result.{err_from_is_err_and}
use Rattle.imap_grammar.proofs.Joins.{tried_some, tried_none, tried_fault}
use Rattle.imap_proto.specs.declared.kept.KeptFetch.{KeptFetch}
use Rattle.imap_grammar.proofs.Memory.{holds_already}
use Rattle.imap_proto.proofs.Memory.{valueless_wants, fetch_line_wants}
use Rattle.imap_proto.proofs.Fetching.{kept, none_kept, fault_kept, line_refuses}
use Rattle.imap_proto.proofs.kept.KeptFetch.keep.Goals as goal

pub returns-clause-keeps : goal.returns-clause-keeps
returns-clause-keeps c =
    let k : KeptFetch = record { alloc = c.args.alloc; number = c.in-Some.number; attributes = c.in-Some.attributes; bytes = c.in_ok-bytes.bytes } in
    let read = tried_some c.fetch_line.result _ _ (sym c.tried.ensures ∙ c.in_ok-q.was) c.in-Some.is in
    kept c.args.msg.now c.in-Some.q (c.in-Some.number, c.in-Some.attributes) k (rw read at c.fetch_line.ensures.steps) (rw read at c.fetch_line.ensures.rests) (c.in_ok-bytes.ensures.items ∙ c.split_at.ensures.front) refl refl

pub returns-in_default-clause-keeps : goal.returns-in_default-clause-keeps
returns-in_default-clause-keeps c =
    let denied = tried_none c.fetch_line.result _ (sym c.tried.ensures ∙ c.in_ok-q.was) c.in_default.is in
    none_kept c.args.msg.now c.parse.result (rw denied at c.fetch_line.ensures.steps) c.parse.ensures.answer (sym c.valueless.ensures ∙ c.in_ok-valueless.was)

pub returns-in_err-valueless-clause-keeps : goal.returns-in_err-valueless-clause-keeps
returns-in_err-valueless-clause-keeps c =
    let r = err_from_is_err_and c.from_residual-in_err-valueless.result c.from_residual-in_err-valueless.ensures.1 in
    rw (r.1, r.2) (fault_kept c.args.msg.now c.parse.result c.in_err-valueless.field-0.0 c.parse.ensures.answer (sym c.valueless.ensures ∙ c.in_err-valueless.was))

pub returns-in_err-q-clause-keeps : goal.returns-in_err-q-clause-keeps
returns-in_err-q-clause-keeps c =
    let r = err_from_is_err_and c.from_residual.result c.from_residual.ensures.1 in
    let was = tried_fault c.fetch_line.result c.in_err-q.field-0.0 (sym c.tried.ensures ∙ c.in_err-q.was) in
    rw (r.1, r.2) (line_refuses c.in_err-q.field-0.0 c.args.msg.now was.1 (rw was.0 at c.fetch_line.ensures.steps))

pub returns-in_err-valueless-clause-failure : goal.returns-in_err-valueless-clause-failure
returns-in_err-valueless-clause-failure c =
    let r = err_from_is_err_and c.from_residual-in_err-valueless.result c.from_residual-in_err-valueless.ensures.1 in
    rw (r.1, r.2) (valueless_wants c.args.msg.now c.parse.result c.in_err-valueless.field-0.0 c.parse.ensures.failure (sym c.valueless.ensures ∙ c.in_err-valueless.was))

pub returns-in_err-q-clause-failure : goal.returns-in_err-q-clause-failure
returns-in_err-q-clause-failure c =
    let r = err_from_is_err_and c.from_residual.result c.from_residual.ensures.1 in
    let was = tried_fault c.fetch_line.result c.in_err-q.field-0.0 (sym c.tried.ensures ∙ c.in_err-q.was) in
    rw (r.1, r.2) (rw was.0 at c.fetch_line.ensures.failure)

pub returns-in_err-bytes-clause-failure : goal.returns-in_err-bytes-clause-failure
returns-in_err-bytes-clause-failure c =
    let read = tried_some c.fetch_line.result _ _ (sym c.tried.ensures ∙ c.in_ok-q.was) c.in-Some.is in
    holds_already _ _ (fetch_line_wants c.args.msg.now _ _ (rw read at c.fetch_line.ensures.steps))
