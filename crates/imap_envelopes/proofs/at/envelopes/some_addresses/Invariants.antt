use Rattle.std.proofs.Common.{drop, length, map, ◌≤◌, ◌-◌}
use Rattle.imap_grammar.specs.Rule.{many}
use Rattle.imap_grammar.specs.Step.{step}
use Rattle.imap_envelopes.specs.Envelopes.{listed_address}
use Rattle.imap_body_types.specs.EnvelopeValues.{address_seen}
use Rattle.imap_envelopes.proofs.Gathering.{Gathered}
use Rattle.imap_grammar.specs.Positions.{named_in}
use Rattle.imap_body_types.specs.Spans.{Rests}
use Rattle.imap_envelopes.proofs.at.envelopes.some_addresses.Given as goal

abbrev pub invariant-addresses : goal.invariant-addresses
invariant-addresses g l = record {
  gathered : Gathered (step (many listed_address) (drop l.p l.input)) listed_address (map (address_seen (g.K.Keep.bytes_said (named_in l.input))) l.items.items) (drop l.q l.input);
  rests : Rests (λ n xs. map (address_seen (g.K.Keep.bytes_said n)) xs) l.q l.items.items;
  ahead : l.p ≤ l.q;
  within : l.q ≤ length l.input;
}

abbrev pub decreases-addresses : goal.decreases-addresses
decreases-addresses g l = length l.input - l.q
