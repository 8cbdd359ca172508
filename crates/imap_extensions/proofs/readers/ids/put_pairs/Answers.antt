use Rattle.std.proofs.Common.{arith, ◌<◌, length}
use Rattle.std.proofs.lemmas.Result.{err_from_is_err_and}
use Rattle.imap_grammar.proofs.Loops.{smaller}
use Rattle.imap_extensions.specs.Ids.{pair_value, next_pair}
use Rattle.imap_extensions.proofs.IdPairs.{no_first, next_put, last_put, fault_behind, next_pair_takes}
use Rattle.imap_extensions.proofs.readers.ids.put_pairs.Goals as goal

pub returns-in_err-rest : goal.returns-in_err-rest
returns-in_err-rest c =
    let p = err_from_is_err_and c.from_residual.result c.from_residual.ensures.1 in
    rw (p.1, p.2) (no_first c.args.i.now c.in_err-rest.field-0.0 c.in_err-rest.ensures)

pub returns-in_err-after : goal.returns-in_err-after
returns-in_err-after c =
    let p = err_from_is_err_and c.from_residual-in_err-after.result c.from_residual-in_err-after.ensures.1 in
    rw (p.1, p.2) (fault_behind c.args.i.now c.pairs.rest.now _ c.in_err-after.field-0.0 c.pairs.invariant c.in_err-after.ensures)

pub returns-in-None : goal.returns-in-None
returns-in-None c = last_put c.args.i.now c.pairs.rest.now c.in_ok-after.after.now _ _ c.pairs.invariant c.in_ok-put_pair.ensures (rw c.in-None.is at c.in_ok-after.ensures)

pub pairs-smaller : goal.pairs-smaller
pairs-smaller c =
    let less : length c.in_ok-after.after.now < length c.pairs.rest.now = smaller next_pair c.pairs.rest.now c.in_ok-after.after.now (pair_value c.in-Some.found) (rw c.in-Some.is at c.in_ok-after.ensures) next_pair_takes in
    omega (arith, less)

pub pairs-preserved : goal.pairs-preserved
pairs-preserved c = next_put c.args.i.now c.pairs.rest.now c.in_ok-after.after.now _ _ (pair_value c.in-Some.found) c.pairs.invariant c.in_ok-put_pair.ensures (rw c.in-Some.is at c.in_ok-after.ensures)
