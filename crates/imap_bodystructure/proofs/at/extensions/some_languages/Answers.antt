use Rattle.std.proofs.Common.{refl, arith, ◌<◌, sym, ◌∙◌}
use Rattle.std.proofs.Math.Nat.{le_trans}
use Rattle.std.proofs.lemmas.Result.{err_from_is_err_and}
use Rattle.imap_grammar.proofs.Agreement.{stops}
use Rattle.imap_envelopes.specs.Envelopes.{spaced}
use Rattle.imap_bytes.specs.Texts.{string_utf8}
use Rattle.imap_bodystructure.specs.Extensions.{some_languages}
use Rattle.imap_envelopes.proofs.Keeping.{kept_rests}
use Rattle.imap_grammar.proofs.Joins.{tried_some, tried_none, tried_fault}
use Rattle.imap_envelopes.proofs.Gathering.{first, next, all, stopped, onward}
use Rattle.imap_grammar.specs.Positions.{named_in}
use Rattle.imap_body_types.proofs.Places.{alone, together}
use Rattle.imap_bodystructure.proofs.at.extensions.some_languages.Goals as goal

pub languages-init : goal.languages-init
languages-init g c =
    let first_one = rw c.input.view_is at c.in_ok-q.ensures in
    record {
      gathered = rw (c.in_ok-items.ensures, c.in_ok-first.ensures.is) (first string_utf8 (spaced string_utf8) _ _ _ first_one.steps);
      rests = rw c.in_ok-items.ensures (alone g.K.Keep.text_said _ _ (kept_rests _ _ _ _ _ _ c.in_ok-first.ensures first_one.rests));
      ahead = first_one.ahead.0;
      within = first_one.ahead.1;
    }

pub languages-smaller : goal.languages-smaller
languages-smaller g c =
    let next_one = rw c.input.view_is at c.spaced_string_text.ensures in
    let is = tried_some _ _ _ (sym c.tried.ensures ∙ c.in_ok-after.was) c.in-Some.is in
    let less : c.languages.q < c.in-Some.after = onward (spaced string_utf8) c.args.input.now _ _ _ (rw is at next_one.steps) refl in
    omega (arith, less, rw is at next_one.ahead)

pub languages-preserved : goal.languages-preserved
languages-preserved g c =
    let next_one = rw c.input.view_is at c.spaced_string_text.ensures in
    let is = tried_some _ _ _ (sym c.tried.ensures ∙ c.in_ok-after.was) c.in-Some.is in
    let far = rw is at next_one.ahead in
    let kept = c.in_ok-text in
    let steps = rw is at next_one.steps in
    let rests = kept_rests _ _ _ _ _ _ kept.ensures (rw is at next_one.rests) in
    record {
      gathered = rw c.in_ok-push.ensures.items (next (λ x. g.K.Keep.text_said (named_in c.args.input.now) x) _ (spaced string_utf8) _ _ _ kept.field-0 c.languages.invariant.gathered (rw kept.ensures.is steps) refl);
      rests = rw c.in_ok-push.ensures.items (together g.K.Keep.text_said _ _ _ _ far.0 c.languages.invariant.rests rests);
      ahead = le_trans c.languages.invariant.ahead far.0;
      within = far.1;
    }

pub returns : goal.returns
unfolding some_languages
returns g c =
    let next_one = rw c.input.view_is at c.spaced_string_text.ensures in
    let is = tried_none _ _ (sym c.tried.ensures ∙ c.in_ok-after.was) c.in_default.is in
    record {
      steps = all _ (spaced string_utf8) _ _ c.languages.invariant.gathered (rw is at next_one.steps);
      ahead = (c.languages.invariant.ahead, c.languages.invariant.within);
      rests = record { same = λ n k alike. c.languages.invariant.rests.same n k alike };
    }

pub returns-in_err-after : goal.returns-in_err-after
unfolding some_languages
returns-in_err-after g c =
    let next_one = rw c.input.view_is at c.spaced_string_text.ensures in
    let p = err_from_is_err_and c.from_residual-in_err-after.result c.from_residual-in_err-after.ensures.1 in
    let q = tried_fault _ _ (sym c.tried.ensures ∙ c.in_err-after.was) in
    rw (p.1, p.2) (record { steps = stops _ _ (stopped _ (spaced string_utf8) _ _ c.in_err-after.field-0.0 c.languages.invariant.gathered q.1 (rw q.0 at next_one.steps)); ahead = tt; rests = tt })
