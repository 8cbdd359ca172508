use Rattle.std.proofs.Common.{drop, length, map, ◌≤◌, ◌-◌}
use Rattle.imap_grammar.specs.Rule.{list1}
use Rattle.imap_grammar.specs.Tags.{sp}
use Rattle.imap_envelopes.specs.Envelopes.{spaced}
use Rattle.imap_grammar.specs.Step.{step}
use Rattle.imap_bytes.specs.Texts.{string_utf8}
use Rattle.imap_envelopes.proofs.Gathering.{Gathered}
use Rattle.imap_grammar.specs.Positions.{named_in}
use Rattle.imap_body_types.specs.Spans.{Rests}
use Rattle.imap_bodystructure.proofs.at.extensions.some_languages.Given as goal

abbrev pub invariant-languages : goal.invariant-languages
invariant-languages g l = record {
  gathered : Gathered (step (list1 sp string_utf8) (drop l.p l.input)) (spaced string_utf8) (map (g.K.Keep.text_said (named_in l.input)) l.items.items) (drop l.q l.input);
  rests : Rests (λ n xs. map (g.K.Keep.text_said n) xs) l.q l.items.items;
  ahead : l.p ≤ l.q;
  within : l.q ≤ length l.input;
}

abbrev pub decreases-languages : goal.decreases-languages
decreases-languages g l = length l.input - l.q
