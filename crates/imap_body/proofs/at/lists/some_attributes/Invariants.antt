use Rattle.std.proofs.Common.{List, drop, length, map, ◌≤◌, ◌-◌}
use Rattle.imap_grammar.specs.Rule.{list1, ◌▹◌}
use Rattle.imap_grammar.specs.Step.{step}
use Rattle.imap_grammar.specs.Tags.{sp}
use Rattle.imap_envelopes.proofs.Gathering.{Gathered}
use Rattle.imap_body.specs.declared.spanned_attribute.SpannedAttribute.{SpannedAttribute}
use Rattle.imap_body.specs.Attributes.{attribute}
use Rattle.imap_body.specs.SpannedAttributes.{attribute_said}
use Rattle.imap_body.proofs.Standing.{UpTo}
use Rattle.imap_body.proofs.at.lists.some_attributes.Given as goal

abbrev pub invariant-attributes : goal.invariant-attributes
invariant-attributes g l = record {
  so_far : (read : List (SpannedAttribute _ _)) × g.K.KeepAttribute.keeps l.keep read l.kept.items × Gathered (step (list1 sp attribute) (drop l.p l.m)) (sp ▹ attribute) (map (attribute_said g.K.Keep.text_said g.K.Keep.bytes_said l.m) read) (drop l.q l.m) × UpTo g.K.Keep.text_said g.K.Keep.bytes_said l.m l.p l.q read;
  ahead : l.p ≤ l.q;
  within : l.q ≤ length l.m;
}

abbrev pub decreases-attributes : goal.decreases-attributes
decreases-attributes g l = length l.m - l.q
