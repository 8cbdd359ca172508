use Rattle.std.proofs.Common.{[], ◌∷◌, ◌++◌, refl, sym, ◌∙◌, inl, arith}
use Rattle.std.proofs.lemmas.List.{take_more}
use Rattle.std.proofs.lemmas.Result.{err_from_is_err_and}
use Rattle.imap_c.proofs.Making.{numbers_more, asks_more, none_named}
use Rattle.imap_c.proofs.commands.asking.Goals as goal

pub numbers-preserved : goal.numbers-preserved
numbers-preserved c =
    let so_far = c.numbers.invariant in (
      so_far.0 ++ c.in_ok-asked.asked ∷ [],
      numbers_more so_far.0 c.in_ok-asked.asked _ _ so_far.1 c.in_ok-asked.ensures ∙ sym (take_more c.args.numbers.now c.numbers.number-index 0 (omega arith)),
      asks_more so_far.0 c.in_ok-asked.asked _ _ _ so_far.2 c.in_ok-fetch.ensures,
    )

pub returns-in_err-asked : goal.returns-in_err-asked
returns-in_err-asked c =
    let p = err_from_is_err_and c.from_residual.result c.from_residual.ensures.1 in
    rw (p.1, p.2) (inl (c.in_err-asked.ensures.0, none_named c.args.numbers.now c.numbers.number-index _ (omega arith) refl c.in_err-asked.ensures.1))
