use Rattle.std.proofs.Common.{drop, length, map, ◌≤◌, ◌-◌}
use Rattle.imap_grammar.specs.Rule.{list1}
use Rattle.imap_grammar.specs.Tags.{sp}
use Rattle.imap_envelopes.specs.Envelopes.{spaced}
use Rattle.imap_grammar.specs.Step.{step}
use Rattle.imap_bodystructure.specs.Fields.{body_param}
use Rattle.imap_body_types.specs.FieldValues.{pair_seen}
use Rattle.imap_envelopes.proofs.Gathering.{Gathered}
use Rattle.imap_grammar.specs.Positions.{named_in}
use Rattle.imap_body_types.specs.Spans.{Rests}
use Rattle.imap_bodystructure.proofs.at.fields.some_params.Given as goal

abbrev pub invariant-params : goal.invariant-params
invariant-params g l = record {
  gathered : Gathered (step (list1 sp body_param) (drop l.p l.input)) (spaced body_param) (map (pair_seen (g.K.Keep.text_said (named_in l.input))) l.items.items) (drop l.q l.input);
  rests : Rests (λ n xs. map (pair_seen (g.K.Keep.text_said n)) xs) l.q l.items.items;
  ahead : l.p ≤ l.q;
  within : l.q ≤ length l.input;
}

abbrev pub decreases-params : goal.decreases-params
decreases-params g l = length l.input - l.q
