use Rattle.std.proofs.Common.{drop, length, List, ◌≤◌, ◌-◌}
use Rattle.imap_grammar.specs.Rule.{list1}
use Rattle.imap_grammar.specs.Step.{step}
use Rattle.imap_grammar.specs.Tags.{sp}
use Rattle.imap_grammar.specs.Text.{Bytes}
use Rattle.imap_bytes.specs.Strings.{astring}
use Rattle.imap_envelopes.specs.Envelopes.{spaced}
use Rattle.imap_envelopes.proofs.Gathering.{Gathered}
use Rattle.imap_sections.proofs.at.sections.header_names.Given as goal

abbrev pub invariant-names : goal.invariant-names
invariant-names l = record {
  gathered : (vs : List Bytes) × Gathered (step (list1 sp astring) (drop l.p l.m)) (spaced astring) vs (drop l.q l.m);
  ahead : l.p ≤ l.q;
  within : l.q ≤ length l.m;
}

abbrev pub decreases-names : goal.decreases-names
decreases-names l = length l.m - l.q
