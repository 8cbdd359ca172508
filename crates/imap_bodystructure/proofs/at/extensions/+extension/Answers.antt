use Rattle.std.proofs.Common.{refl, sym, drop, arith, rules, ◌<◌, ◌∙◌}
use Rattle.std.proofs.Math.Nat.{le_trans}
use Rattle.std.proofs.lemmas.Result.{err_from_is_err_and}
use Rattle.imap_grammar.specs.Positions.{named_in}
use Rattle.imap_envelopes.specs.Envelopes.{spaced}
use Rattle.imap_grammar.proofs.Memory.{holds_already}
use Rattle.imap_bodystructure.specs.Extensions.{extension_over, some_extensions, bracketed_extensions, extension_list}
use Rattle.imap_body_types.specs.ExtensionValues.{extension_seen}
use Rattle.imap_grammar.proofs.Agreement.{exactly_gives_at}
use Rattle.imap_grammar.proofs.Joins.{tried_some, tried_none, tried_fault}
use Rattle.imap_body_types.proofs.Trees.{extension_list_seen}
use Rattle.imap_bodystructure.proofs.Seeing.{list_rests}
use Rattle.imap_bodystructure.proofs.Levels.{list_below, above_none}
use Rattle.imap_bodystructure.proofs.FirstBytes.{extension_none, extension_is_string, extension_is_list, extension_is_number, extension_other}
use Rattle.imap_envelopes.proofs.Gathering.{first, next, all, halted, onward}
use Rattle.imap_body_types.proofs.Places.{rests_more, alone, together}
use Rattle.imap_bodystructure.proofs.at.extensions.+extension.Goals as goal

pub extension_list-returns-then-level-eq0 : goal.extension_list-returns-then-level-eq0
unfolding extension_list
extension_list-returns-then-level-eq0 g t c = record { reads = record { steps = rw c.if-level-eq0.true refl; ahead = tt; rests = tt }; memory = λ q. absurd cc }

pub extension_list-returns : goal.extension_list-returns
extension_list-returns g t c = record {
  reads = rw (list_below c.args.level (drop c.args.p c.args.input.now) c.if-level-eq0.false) c.bracketed_extensions.ensures;
  memory = holds_already _ _ (above_none c.args.level c.if-level-eq0.false);
}

pub bracketed_extensions-returns : goal.bracketed_extensions-returns
unfolding bracketed_extensions
bracketed_extensions-returns g t c =
    let members = rw (← c.input.view_is) at c.in_ok-p-2.ensures in
    let end = c.in_ok-p-4.ensures.inside in
    rw (← c.input.view_is) (record {
      steps = rw (c.in_ok-p.ensures.steps, members.steps, c.in_ok-p-3.ensures.steps, c.in_ok-p-4.ensures.steps, extension_list_seen (g.K.Keep.text_said (named_in c.input.inside.message.now)) c.in_ok-p-2.members) refl;
      ahead = (omega (arith, c.in_ok-p.ensures.inside, members.ahead, c.in_ok-p-3.ensures.inside, end), end.1);
      rests = list_rests _ _ _ (rests_more _ (omega (arith, c.in_ok-p-3.ensures.inside, end)) members.rests);
    })

pub some_extensions-extensions-init : goal.some_extensions-extensions-init
some_extensions-extensions-init g t c =
    let one = extension_over (extension_list c.args.level) in
    record {
      gathered = rw c.in_ok-items.ensures (first one (spaced one) _ _ _ c.in_ok-q.ensures.steps);
      rests = rw c.in_ok-items.ensures (alone (λ n x. extension_seen (g.K.Keep.text_said n) x) _ _ c.in_ok-q.ensures.rests);
      ahead = c.in_ok-q.ensures.ahead.0;
      within = c.in_ok-q.ensures.ahead.1;
    }

pub some_extensions-extensions-smaller : goal.some_extensions-extensions-smaller
some_extensions-extensions-smaller g t c =
    let is = tried_some _ _ _ (sym c.tried.ensures ∙ c.in_ok-after.was) c.in-Some.is in
    let more = spaced (extension_over (extension_list c.args.level)) in
    let less : c.extensions.q < c.in-Some.after = onward more c.args.input.now _ _ _ (rw is at c.spaced_extension.ensures.steps) refl in
    omega (arith, less, rw is at c.spaced_extension.ensures.ahead)

pub some_extensions-extensions-preserved : goal.some_extensions-extensions-preserved
some_extensions-extensions-preserved g t c =
    let is = tried_some _ _ _ (sym c.tried.ensures ∙ c.in_ok-after.was) c.in-Some.is in
    let far = rw is at c.spaced_extension.ensures.ahead in
    let more = spaced (extension_over (extension_list c.args.level)) in
    record {
      gathered = rw c.in_ok-push.ensures.items (next (λ x. extension_seen (g.K.Keep.text_said (named_in c.args.input.now)) x) _ more _ _ _ _ c.extensions.invariant.gathered (rw is at c.spaced_extension.ensures.steps) refl);
      rests = rw c.in_ok-push.ensures.items (together (λ n x. extension_seen (g.K.Keep.text_said n) x) _ _ _ _ far.0 c.extensions.invariant.rests (rw is at c.spaced_extension.ensures.rests));
      ahead = le_trans c.extensions.invariant.ahead far.0;
      within = far.1;
    }

pub some_extensions-returns : goal.some_extensions-returns
unfolding some_extensions
some_extensions-returns g t c =
    let is = tried_none _ _ (sym c.tried.ensures ∙ c.in_ok-after.was) c.in_default.is in
    record {
      steps = all _ (spaced (extension_over (extension_list c.args.level))) _ _ c.extensions.invariant.gathered (rw is at c.spaced_extension.ensures.steps);
      ahead = (c.extensions.invariant.ahead, c.extensions.invariant.within);
      rests = record { same = λ n k alike. c.extensions.invariant.rests.same n k alike };
    }

pub some_extensions-returns-in_err-after : goal.some_extensions-returns-in_err-after
unfolding some_extensions
some_extensions-returns-in_err-after g t c =
    let p = err_from_is_err_and c.from_residual-in_err-after.result c.from_residual-in_err-after.ensures.1 in
    let q = tried_fault _ _ (sym c.tried.ensures ∙ c.in_err-after.was) in
    rw (p.1, p.2) (record { steps = halted _ (spaced (extension_over (extension_list c.args.level))) _ _ c.in_err-after.field-0.0 c.extensions.invariant.gathered q.1 (rw q.0 at c.spaced_extension.ensures.steps); ahead = tt; rests = tt })

pub extension-returns-in-None : goal.extension-returns-in-None
extension-returns-in-None g t c = record { steps = extension_none c.args.level (drop c.args.p c.args.input.now) (search rules); ahead = tt; rests = tt }

pub extension-returns-in-Some-eq34 : goal.extension-returns-in-Some-eq34
extension-returns-in-Some-eq34 g t c =
    rw (extension_is_string c.args.level (drop c.args.p c.args.input.now) (search rules)) c.string_extension.ensures

pub extension-returns-in-Some-eq40 : goal.extension-returns-in-Some-eq40
extension-returns-in-Some-eq40 g t c =
    rw (extension_is_list c.args.level (drop c.args.p c.args.input.now) (search rules)) c.extension_list.ensures.reads

pub extension-returns-in-Some : goal.extension-returns-in-Some
extension-returns-in-Some g t c =
    let number = rw c.input.view_is at c.number_extension.ensures in
    record {
      steps = rw (extension_is_number c.args.level (drop c.args.p c.args.input.now) (search rules) (search rules)) (exactly_gives_at _ _ _ _ number.steps);
      ahead = number.ahead;
      rests = number.rests;
    }

pub extension-returns-in-Some-2 : goal.extension-returns-in-Some-2
extension-returns-in-Some-2 g t c =
    record { steps = extension_other c.args.level (drop c.args.p c.args.input.now) (search rules) (search rules) (search rules); ahead = tt; rests = tt }
