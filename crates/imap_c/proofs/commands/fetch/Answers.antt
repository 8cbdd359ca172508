use Rattle.std.proofs.Common.{◌∷◌, inl, inr}
use Rattle.std.proofs.lemmas.Result.{err_from_is_err_and}
use Rattle.imap_c.proofs.Making.{first_more, first_unnamed, rest_unnamed, fetched}
use Rattle.imap_c.proofs.commands.fetch.Goals as goal

pub returns-in_err-asked : goal.returns-in_err-asked
returns-in_err-asked c =
    let p = err_from_is_err_and c.from_residual.result c.from_residual.ensures.1 in
    rw (p.1, p.2) (inl (c.in_err-asked.ensures.0, λ asked named. first_unnamed c.args.attributes.now _ _ c.in-Some.ensures.cases.0 c.in_err-asked.ensures.1 asked named.0))

pub returns-in_err-fetch-2 : goal.returns-in_err-fetch-2
returns-in_err-fetch-2 c =
    let p = err_from_is_err_and c.from_residual-in_err-fetch-2.result c.from_residual-in_err-fetch-2.ensures.1 in
    rw (p.1, p.2) (elim c.in_err-fetch-2.ensures [
      | inl none ↦ inl (none.0, λ asked named. rest_unnamed c.args.attributes.now _ _ c.in-Some.ensures.cases.0 none.1 asked named.0)
      | inr e ↦ inr e
    ])

pub returns : goal.returns
returns c =
    let asks = c.in_ok-fetch-2.ensures in (
      c.in_ok-asked.asked ∷ asks.0,
      (first_more c.in_ok-asked.asked asks.0 c.args.attributes.now _ _ c.in-Some.ensures.cases.0 c.in_ok-asked.ensures asks.1, λ e. cc),
      fetched c.args.by_uid c.args.first c.args.last c.in_ok-asked.asked asks.0 _ _ _ c.in_ok-into_command.field-0 c.in_ok-messages.ensures c.in_ok-fetch.ensures asks.2 c.in_ok-into_command.ensures,
    )
