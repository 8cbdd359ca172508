use Rattle.std.proofs.Common.{rules, refl}
use Rattle.imap_grammar.specs.declared.lists.Separator.TheVariants.{Comma}
use Rattle.imap_grammar.proofs.Agreement.{answered}
use Rattle.imap_grammar.proofs.Under.{shorter_ends, exactly_at, exact_still}
use Rattle.imap_grammar.proofs.Callers.{separated_read, separated_fails}
use Rattle.imap_shared.proofs.Takes.{uid_set_member_takes}
use Rattle.imap_shared.specs.UidSets.{member_value, uid_set, uid_set_member}
use Rattle.imap_shared.proofs.UidSets.{ordered_members}
use Rattle.imap_shared.proofs.readers.uid_sets.uid_set.Goals as goal

pub separated-requires : goal.separated-requires
separated-requires c = λ k. ((refl, tt), (search rules, shorter_ends member_value uid_set_member (λ n r h. exactly_at member_value uid_set_member r h.shows h.says.met) uid_set_member_takes))

pub returns-clause-steps : goal.returns-clause-steps
unfolding uid_set
returns-clause-steps c = separated_read Comma member_value uid_set_member c.separated.ensures (λ n r h. exactly_at member_value uid_set_member r h.shows h.says.met)

pub returns-clause-answer : goal.returns-clause-answer
returns-clause-answer c = answered _ _ _ _ (returns-clause-steps c)

pub returns-clause-ordered : goal.returns-clause-ordered
returns-clause-ordered c = ordered_members c.separated.result c.args.i.now (returns-clause-steps c)

pub returns-clause-memory : goal.returns-clause-memory
returns-clause-memory c =
    separated_fails Comma member_value uid_set_member _ c.separated.ensures (λ n r h. exact_still member_value uid_set_member r h.shows h.says.met)
