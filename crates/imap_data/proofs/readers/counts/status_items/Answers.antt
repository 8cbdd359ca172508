use Rattle.std.proofs.Common.{rules, refl}
use Rattle.imap_grammar.proofs.Under.{shorter_ends, exactly_at, exact_still}
use Rattle.imap_grammar.proofs.Callers.{listed, listed_fails}
use Rattle.imap_data.proofs.Takes.{status_item_takes}
use Rattle.imap_data.specs.Counts.{status_item, status_items}
use Rattle.imap_grammar.proofs.Plain.{plain}
use Rattle.imap_data.proofs.readers.counts.status_items.Goals as goal

pub parenthesized_list-requires : goal.parenthesized_list-requires
parenthesized_list-requires c = λ k. ((refl, tt), (search rules, shorter_ends (λ x. x) status_item (λ n r h. exactly_at (λ x. x) status_item r h.shows h.says.met) status_item_takes))

pub returns-clause-steps : goal.returns-clause-steps
unfolding status_items
returns-clause-steps c = plain _ _ (listed (λ x. x) status_item c.parenthesized_list.ensures (λ n r h. exactly_at (λ x. x) status_item r h.shows h.says.met))

pub returns-clause-memory : goal.returns-clause-memory
returns-clause-memory c = listed_fails (λ x. x) status_item _ c.parenthesized_list.ensures (λ n r h. exact_still (λ x. x) status_item r h.shows h.says.met)
