use Rattle.std.proofs.Common.{rules, refl, sym, subst, Ok, ◌∙◌, []}
use Rattle.std.proofs.lemmas.Result.{err_from_is_err_and}
use Rattle.imap_grammar.specs.declared.lists.Separator.TheVariants.{Space}
use Rattle.imap_grammar.specs.Text.{text_of}
use Rattle.imap_grammar.specs.Memory.{StartsWith}
use Rattle.imap_grammar.specs.Rule.{list1, nothing}
use Rattle.imap_grammar.specs.Tags.{sp}
use Rattle.imap_grammar.proofs.Agreement.{answered}
use Rattle.imap_grammar.proofs.Joins.{tried_some, tried_none, tried_fault}
use Rattle.imap_grammar.proofs.Memory.{tried_fails}
use Rattle.imap_grammar.proofs.Under.{shorter_ends, kept_at}
use Rattle.imap_grammar.proofs.Callers.{separated_read}
use Rattle.imap_data.proofs.Takes.{entry_utf8_takes}
use Rattle.imap_data.proofs.Annotations.{entry_starts, separated_behind, alt_stops}
use Rattle.imap_data.specs.Annotations.{entry, entry_utf8, entries}
use Rattle.imap_data.proofs.readers.annotations.entries.Goals as goal

pub separated-requires : goal.separated-requires
separated-requires c = λ k. ((refl, tt), (search rules, shorter_ends text_of entry_utf8 (λ n r h. kept_at text_of entry_utf8 r h.shows h.says.met.0) entry_utf8_takes))

pub returns-in_err-found-clause-steps : goal.returns-in_err-found-clause-steps
unfolding entries
returns-in_err-found-clause-steps c =
    let e = c.in_err-found.field-0.0 in
    let r = err_from_is_err_and c.from_residual.result c.from_residual.ensures.1 in
    let was = tried_fault c.separated.result e (sym c.tried.ensures ∙ c.in_err-found.was) in
    let read = separated_read Space text_of entry_utf8 c.separated.ensures (λ n r h. kept_at text_of entry_utf8 r h.shows h.says.met.0) in
    rw (r.1, r.2) (alt_stops (list1 sp entry_utf8) (nothing []) c.args.i.now e was.1 (rw was.0 at read))

pub returns-in_err-found-clause-answer : goal.returns-in_err-found-clause-answer
returns-in_err-found-clause-answer c = answered _ _ _ _ (returns-in_err-found-clause-steps c)

pub returns-in_err-found-clause-memory : goal.returns-in_err-found-clause-memory
returns-in_err-found-clause-memory c =
    tried_fails _ c.separated.result _ c.in_err-found.field-0.0 c.from_residual.result (search rules) c.tried.ensures c.in_err-found.was
    (separated_behind Space (λ m. StartsWith entry m) c.separated.result c.separated.ensures
    (λ n left x h. entry_starts n left.now (text_of x) (kept_at text_of entry_utf8 (Ok (left, x)) h.shows h.says.met.0))
    (λ n e h q. subst (λ j. StartsWith entry j) h.shows (h.says.met.1 q)))

pub returns-in-Some-clause-steps : goal.returns-in-Some-clause-steps
unfolding entries
returns-in-Some-clause-steps c =
    let is = tried_some c.separated.result c.in_ok-found.field-0 _ (sym c.tried.ensures ∙ c.in_ok-found.was) c.in-Some.is in
    let read = separated_read Space text_of entry_utf8 c.separated.ensures (λ n r h. kept_at text_of entry_utf8 r h.shows h.says.met.0) in
    rw (rw is at read) refl

pub returns-in-Some-clause-answer : goal.returns-in-Some-clause-answer
returns-in-Some-clause-answer c = answered _ _ _ _ (returns-in-Some-clause-steps c)

pub returns-in-None-clause-steps : goal.returns-in-None-clause-steps
unfolding entries
returns-in-None-clause-steps c =
    let is = tried_none c.separated.result c.in_ok-found.field-0 (sym c.tried.ensures ∙ c.in_ok-found.was) c.in-None.is in
    let read = separated_read Space text_of entry_utf8 c.separated.ensures (λ n r h. kept_at text_of entry_utf8 r h.shows h.says.met.0) in
    rw (rw is at read, c.new.ensures.items) refl

pub returns-in-None-clause-answer : goal.returns-in-None-clause-answer
returns-in-None-clause-answer c = answered _ _ _ _ (returns-in-None-clause-steps c)
