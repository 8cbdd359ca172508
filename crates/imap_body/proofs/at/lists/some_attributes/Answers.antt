use Rattle.std.proofs.Common.{refl, arith, ◌<◌, ◌++◌, ◌∷◌, [], sym, ◌∙◌}
use Rattle.std.proofs.Math.Nat.{le_trans}
use Rattle.std.proofs.lemmas.Result.{err_from_is_err_and}
use Rattle.imap_grammar.specs.Rule.{◌▹◌}
use Rattle.imap_grammar.specs.Tags.{sp}
use Rattle.imap_grammar.proofs.Joins.{tried_some, tried_none, tried_fault}
use Rattle.imap_envelopes.proofs.Gathering.{first, next, all, halted, onward}
use Rattle.imap_body.specs.Attributes.{attribute}
use Rattle.imap_body.specs.SpannedAttributes.{attribute_said}
use Rattle.imap_body.proofs.Standing.{up_to_one, up_to_more, in_turn}
use Rattle.imap_body.proofs.at.lists.some_attributes.Goals as goal

pub attributes-init : goal.attributes-init
attributes-init g c = record {
  so_far = (c.in-Ok-or_drop.field-0.1 ∷ [], c.in_ok-add.ensures [] c.in_ok-kept.ensures, first attribute (sp ▹ attribute) _ _ _ c.in-Ok-or_drop.ensures.steps, up_to_one _ _ _ _ _ _ c.in-Ok-or_drop.ensures.stands);
  ahead = c.in-Ok-or_drop.ensures.ahead.0;
  within = c.in-Ok-or_drop.ensures.ahead.1;
}

pub attributes-smaller : goal.attributes-smaller
attributes-smaller g c =
    let is = tried_some _ _ _ (sym c.tried.ensures ∙ c.in_ok-after.was) c.in-Some.is in
    let less : c.attributes.q < c.in-Some.after = onward (sp ▹ attribute) c.args.m.now _ _ _ (rw is at c.spaced_attribute.ensures.steps) refl in
    omega (arith, less, rw is at c.spaced_attribute.ensures.ahead)

pub attributes-preserved : goal.attributes-preserved
attributes-preserved g c =
    let is = tried_some _ _ _ (sym c.tried.ensures ∙ c.in_ok-after.was) c.in-Some.is in
    let far = rw is at c.spaced_attribute.ensures.ahead in
    let before = c.attributes.invariant.so_far in
    record {
      so_far = (before.0 ++ c.in-Some.attribute ∷ [], c.in_ok-add-2.ensures before.0 before.1, next (attribute_said g.K.Keep.text_said g.K.Keep.bytes_said c.args.m.now) _ (sp ▹ attribute) before.0 _ _ c.in-Some.attribute before.2 (rw is at c.spaced_attribute.ensures.steps) refl, up_to_more _ _ _ _ _ _ before.0 c.in-Some.attribute before.3 (rw is at c.spaced_attribute.ensures.stands));
      ahead = le_trans c.attributes.invariant.ahead far.0;
      within = far.1;
    }

pub returns-2-clause-kept : goal.returns-2-clause-kept
returns-2-clause-kept g c =
    let is = tried_none _ _ (sym c.tried.ensures ∙ c.in_ok-after.was) c.in_default.is in
    let read = c.attributes.invariant.so_far in
    (read.0, read.1, all _ (sp ▹ attribute) _ _ read.2 (rw is at c.spaced_attribute.ensures.steps), in_turn _ _ _ _ _ _ read.0 read.3 (omega (arith)))

pub returns-in_err-after-clause-kept : goal.returns-in_err-after-clause-kept
returns-in_err-after-clause-kept g c =
    let p = err_from_is_err_and c.from_residual-in_err-after.result c.from_residual-in_err-after.ensures.1 in
    let q = tried_fault _ _ (sym c.tried.ensures ∙ c.in_err-after.was) in
    rw (p.1, p.2) (halted _ (sp ▹ attribute) _ _ c.in_err-after.field-0.0 c.attributes.invariant.so_far.2 q.1 (rw q.0 at c.spaced_attribute.ensures.steps))
