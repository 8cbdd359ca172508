use Rattle.std.proofs.Common.{refl, arith, ◌<◌, sym, ◌∙◌}
use Rattle.std.proofs.Math.Nat.{le_trans}
use Rattle.std.proofs.lemmas.Result.{err_from_is_err_and}
use Rattle.imap_bytes.specs.Strings.{astring}
use Rattle.imap_envelopes.specs.Envelopes.{spaced}
use Rattle.imap_sections.specs.Sections.{header_names}
use Rattle.imap_grammar.proofs.Joins.{tried_some, tried_none, tried_fault}
use Rattle.imap_envelopes.proofs.Gathering.{first, next_one, all, stopped, onward}
use Rattle.imap_sections.proofs.at.sections.header_names.Goals as goal

pub names-init : goal.names-init
names-init c = record {
  gathered = (_, first astring (spaced astring) _ _ _ c.in_ok-q.ensures.steps);
  ahead = omega (arith, c.in_ok-q.ensures.inside);
  within = omega (arith, c.in_ok-q.ensures.inside);
}

pub names-smaller : goal.names-smaller
names-smaller c =
    let is = tried_some _ _ _ (sym c.tried.ensures ∙ c.in_ok-after.was) c.in-Some.is in
    let less : c.names.q < c.in-Some.after = onward (spaced astring) c.args.m.now _ _ _ (rw is at c.spaced_name.ensures.steps) refl in
    omega (arith, less, rw is at c.spaced_name.ensures.ahead)

pub names-preserved : goal.names-preserved
names-preserved c =
    let is = tried_some _ _ _ (sym c.tried.ensures ∙ c.in_ok-after.was) c.in-Some.is in
    let far = rw is at c.spaced_name.ensures.ahead in
    let so_far = c.names.invariant.gathered in
    record {
      gathered = (_, next_one _ (spaced astring) so_far.0 _ _ _ so_far.1 (rw is at c.spaced_name.ensures.steps) refl);
      ahead = le_trans c.names.invariant.ahead far.0;
      within = far.1;
    }

pub returns-clause-steps : goal.returns-clause-steps
unfolding header_names
returns-clause-steps c =
    let is = tried_none _ _ (sym c.tried.ensures ∙ c.in_ok-after.was) c.in_default.is in
    let so_far = c.names.invariant.gathered in
    rw (all _ (spaced astring) so_far.0 _ so_far.1 (rw is at c.spaced_name.ensures.steps)) refl

pub returns-in_err-after-clause-steps : goal.returns-in_err-after-clause-steps
unfolding header_names
returns-in_err-after-clause-steps c =
    let so_far = c.names.invariant.gathered in
    let p = err_from_is_err_and c.from_residual-in_err-after.result c.from_residual-in_err-after.ensures.1 in
    let q = tried_fault _ _ (sym c.tried.ensures ∙ c.in_err-after.was) in
    rw (p.1, p.2) (rw (stopped _ (spaced astring) so_far.0 _ c.in_err-after.field-0.0 so_far.1 q.1 (rw q.0 at c.spaced_name.ensures.steps)) refl)
