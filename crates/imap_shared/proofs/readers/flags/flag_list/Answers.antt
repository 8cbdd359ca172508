use Rattle.std.proofs.Common.{rules, refl}
use Rattle.imap_grammar.specs.Text.{text_of}
use Rattle.imap_grammar.proofs.Agreement.{answered}
use Rattle.imap_grammar.proofs.Under.{shorter_ends, exactly_at, exact_still}
use Rattle.imap_grammar.proofs.Callers.{listed, listed_fails}
use Rattle.imap_shared.proofs.Takes.{flag_text_takes}
use Rattle.imap_shared.specs.Flags.{flag_text, flag_list}
use Rattle.imap_shared.proofs.readers.flags.flag_list.Goals as goal

pub parenthesized_list-requires : goal.parenthesized_list-requires
parenthesized_list-requires c = λ k. ((refl, tt), (search rules, shorter_ends text_of flag_text (λ n r h. exactly_at text_of flag_text r h.shows h.says.met.0) flag_text_takes))

pub returns-clause-steps : goal.returns-clause-steps
unfolding flag_list
returns-clause-steps c = listed text_of flag_text c.parenthesized_list.ensures (λ n r h. exactly_at text_of flag_text r h.shows h.says.met.0)

pub returns-clause-answer : goal.returns-clause-answer
returns-clause-answer c = answered _ _ _ _ (returns-clause-steps c)

pub returns-clause-memory : goal.returns-clause-memory
returns-clause-memory c = listed_fails text_of flag_text _ c.parenthesized_list.ensures (λ n r h. exact_still text_of flag_text r h.shows h.says.met.0)
