use Rattle.std.proofs.Common.{drop, length, map, ◌≤◌, ◌-◌, ◌+◌, ◌*◌}
use Rattle.imap_grammar.specs.Rule.{some1}
use Rattle.imap_grammar.specs.Step.{step}
use Rattle.imap_bodystructure.specs.Bodies.{body}
use Rattle.imap_body_types.specs.BodyValues.{body_seen}
use Rattle.imap_envelopes.proofs.Gathering.{Gathered}
use Rattle.imap_grammar.specs.Positions.{named_in}
use Rattle.imap_body_types.specs.Spans.{Rests}
use Rattle.imap_bodystructure.proofs.at.bodies.+body.Given as goal

abbrev pub decreases-body : goal.decreases-body
decreases-body g l = 9 * l.level

abbrev pub decreases-bracketed_body : goal.decreases-bracketed_body
decreases-bracketed_body g l = 9 * l.level + 8

abbrev pub decreases-body_type : goal.decreases-body_type
decreases-body_type g l = 9 * l.level + 7

abbrev pub decreases-quoted_type : goal.decreases-quoted_type
decreases-quoted_type g l = 9 * l.level + 6

abbrev pub decreases-body_type_msg : goal.decreases-body_type_msg
decreases-body_type_msg g l = 9 * l.level + 5

abbrev pub decreases-body_type_mpart : goal.decreases-body_type_mpart
decreases-body_type_mpart g l = 9 * l.level + 4

abbrev pub decreases-some_bodies : goal.decreases-some_bodies
decreases-some_bodies g l = 9 * l.level + 3

abbrev pub decreases-spaced_body : goal.decreases-spaced_body
decreases-spaced_body g l = 9 * l.level + 2

abbrev pub decreases-one_body : goal.decreases-one_body
decreases-one_body g l = 9 * l.level + 1

abbrev pub invariant-some_bodies-bodies : goal.invariant-some_bodies-bodies
invariant-some_bodies-bodies g l = record {
  gathered : Gathered (step (some1 (body l.level)) (drop l.p l.input)) (body l.level) (map (body_seen (g.K.Keep.text_said (named_in l.input)) (g.K.Keep.bytes_said (named_in l.input))) l.items.items) (drop l.q l.input);
  rests : Rests (λ n xs. map (body_seen (g.K.Keep.text_said n) (g.K.Keep.bytes_said n)) xs) l.q l.items.items;
  ahead : l.p ≤ l.q;
  within : l.q ≤ length l.input;
}

abbrev pub decreases-some_bodies-bodies : goal.decreases-some_bodies-bodies
decreases-some_bodies-bodies g l = length l.input - l.q
