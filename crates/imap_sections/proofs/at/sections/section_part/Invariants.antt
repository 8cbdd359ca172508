use Rattle.std.proofs.Common.{drop, length, ◌≤◌, ◌-◌}
use Rattle.imap_grammar.specs.Rule.{list1, ◌▹◌}
use Rattle.imap_grammar.specs.Step.{step}
use Rattle.imap_grammar.specs.Tags.{tag}
use Rattle.imap_bytes.specs.Numbers.{number}
use Rattle.imap_envelopes.proofs.Gathering.{Gathered}
use Rattle.imap_sections.proofs.at.sections.section_part.Given as goal

abbrev pub invariant-numbers : goal.invariant-numbers
invariant-numbers l = record {
  gathered : Gathered (step (list1 (tag ".") number) (drop l.p l.m)) (tag "." ▹ number) l.items.items (drop l.q l.m);
  ahead : l.p ≤ l.q;
  within : l.q ≤ length l.m;
}

abbrev pub decreases-numbers : goal.decreases-numbers
decreases-numbers l = length l.m - l.q
