use Rattle.std.proofs.Common.{drop, length, map, ◌≤◌, ◌-◌, ◌+◌, ◌*◌}
use Rattle.imap_grammar.specs.Rule.{list1}
use Rattle.imap_grammar.specs.Tags.{sp}
use Rattle.imap_grammar.specs.Step.{step}
use Rattle.imap_envelopes.specs.Envelopes.{spaced}
use Rattle.imap_bodystructure.specs.Extensions.{extension_over, extension_list}
use Rattle.imap_body_types.specs.ExtensionValues.{extension_seen}
use Rattle.imap_envelopes.proofs.Gathering.{Gathered}
use Rattle.imap_grammar.specs.Positions.{named_in}
use Rattle.imap_body_types.specs.Spans.{Rests}
use Rattle.imap_bodystructure.proofs.at.extensions.+extension.Given as goal

abbrev pub decreases-extension : goal.decreases-extension
decreases-extension g l = 5 * l.level + 1

abbrev pub decreases-extension_list : goal.decreases-extension_list
decreases-extension_list g l = 5 * l.level

abbrev pub decreases-bracketed_extensions : goal.decreases-bracketed_extensions
decreases-bracketed_extensions g l = 5 * l.level + 4

abbrev pub decreases-some_extensions : goal.decreases-some_extensions
decreases-some_extensions g l = 5 * l.level + 3

abbrev pub decreases-spaced_extension : goal.decreases-spaced_extension
decreases-spaced_extension g l = 5 * l.level + 2

abbrev pub invariant-some_extensions-extensions : goal.invariant-some_extensions-extensions
invariant-some_extensions-extensions g l = record {
  gathered : Gathered (step (list1 sp (extension_over (extension_list l.level))) (drop l.p l.input)) (spaced (extension_over (extension_list l.level))) (map (extension_seen (g.K.Keep.text_said (named_in l.input))) l.items.items) (drop l.q l.input);
  rests : Rests (λ n xs. map (extension_seen (g.K.Keep.text_said n)) xs) l.q l.items.items;
  ahead : l.p ≤ l.q;
  within : l.q ≤ length l.input;
}

abbrev pub decreases-some_extensions-extensions : goal.decreases-some_extensions-extensions
decreases-some_extensions-extensions g l = length l.input - l.q
