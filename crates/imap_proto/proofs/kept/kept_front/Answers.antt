use Rattle.std.proofs.Common.{refl, sym, ap, length, ◌∙◌}
use Rattle.std.proofs.lemmas.Result.{err_from_is_err_and}
use Rattle.imap_grammar.proofs.Joins.{tried_some, tried_none, tried_fault}
use Rattle.imap_grammar.proofs.Memory.{holds_already}
use Rattle.imap_proto.specs.declared.kept.KeptFetch.{KeptFetch}
use Rattle.imap_proto.proofs.Fetching.{line_stops}
use Rattle.imap_proto.proofs.Fronts.{fetch_front, other_is_front, other_wants, uncopied_wants, unkept_wants}
use Rattle.imap_proto.proofs.kept.kept_front.Goals as goal

pub returns-clause-front : goal.returns-clause-front
returns-clause-front c =
    let k : KeptFetch = record { alloc = c.args.alloc; number = c.in-Some.number; attributes = c.in-Some.attributes; bytes = c.in_ok-bytes.bytes } in
    let read = tried_some c.fetch_line.result _ _ (sym c.tried.ensures ∙ c.in_ok-q.was) c.in-Some.is in
    fetch_front c.args.held.now c.in-Some.q _ (c.in-Some.number, c.in-Some.attributes) k (rw read at c.fetch_line.ensures.steps) (rw read at c.fetch_line.ensures.rests) (c.in_ok-bytes.ensures.items ∙ c.split_at.ensures.front) refl refl (ap length c.split_at.ensures.back)

pub returns-in_default-clause-front : goal.returns-in_default-clause-front
returns-in_default-clause-front c =
    let denied = tried_none c.fetch_line.result _ (sym c.tried.ensures ∙ c.in_ok-q.was) c.in_default.is in
    other_is_front c.args.held.now c.owned_front.result c.other_front.result (rw denied at c.fetch_line.ensures.steps) c.owned_front.ensures.front c.other_front.ensures

pub returns-in_err-q-clause-front : goal.returns-in_err-q-clause-front
returns-in_err-q-clause-front c =
    let r = err_from_is_err_and c.from_residual.result c.from_residual.ensures.1 in
    let was = tried_fault c.fetch_line.result c.in_err-q.field-0.0 (sym c.tried.ensures ∙ c.in_err-q.was) in
    rw (r.1, r.2) (line_stops c.in_err-q.field-0.0 c.args.held.now was.1 (rw was.0 at c.fetch_line.ensures.steps))

pub returns-in_default-clause-failure : goal.returns-in_default-clause-failure
returns-in_default-clause-failure c = other_wants _ c.owned_front.result c.other_front.result c.owned_front.ensures.failure c.other_front.ensures

pub returns-in_err-q-clause-failure : goal.returns-in_err-q-clause-failure
returns-in_err-q-clause-failure c =
    let r = err_from_is_err_and c.from_residual.result c.from_residual.ensures.1 in
    let was = tried_fault c.fetch_line.result c.in_err-q.field-0.0 (sym c.tried.ensures ∙ c.in_err-q.was) in
    let wants = rw was.0 at c.fetch_line.ensures.failure in
    let begins = rw was.0 at c.fetch_line.ensures.begins in
    rw (r.1, r.2) (λ e. unkept_wants c.args.held.now (wants e) (begins e))

pub returns-in_err-bytes-clause-failure : goal.returns-in_err-bytes-clause-failure
returns-in_err-bytes-clause-failure c =
    let read = tried_some c.fetch_line.result _ _ (sym c.tried.ensures ∙ c.in_ok-q.was) c.in-Some.is in
    holds_already _ _ (uncopied_wants c.args.held.now _ _ (rw read at c.fetch_line.ensures.steps))
