use Rattle.imap_grammar.proofs.Agreement.{answered_at}
use Rattle.imap_grammar.proofs.PositionUnder.{listed_at, listed_fails_at, advances_at, exact_at}
use Rattle.imap_grammar.proofs.PositionItems.{inside_ahead, listed_inside}
use Rattle.imap_shared.specs.Flags.{flag_text, flag_list}
use Rattle.imap_shared.specs.Spanned.{decoded_in}
use Rattle.imap_shared.proofs.Takes.{flag_text_takes}
use Rattle.imap_shared.proofs.at.flags.flag_list.Goals as goal

pub parenthesized_list-requires-clause-advances : goal.parenthesized_list-requires-clause-advances
parenthesized_list-requires-clause-advances c = advances_at (decoded_in c.args.m.now) flag_text (λ k r le h. exact_at _ _ _ r h.0) (λ k r le h. inside_ahead _ _ r h.1) flag_text_takes

pub returns-clause-steps : goal.returns-clause-steps
unfolding flag_list
returns-clause-steps c = listed_at (decoded_in c.args.m.now) flag_text c.parenthesized_list.ensures.follows (λ k r le h. exact_at _ _ _ r h.0)

pub returns-clause-answer : goal.returns-clause-answer
returns-clause-answer c = answered_at _ _ _ _ _ (returns-clause-steps c)

pub returns-clause-inside : goal.returns-clause-inside
returns-clause-inside c = listed_inside _ c.parenthesized_list.ensures.follows c.requires (advances_at (decoded_in c.args.m.now) flag_text (λ k r le h. exact_at _ _ _ r h.0) (λ k r le h. inside_ahead _ _ r h.1) flag_text_takes) (λ k r le h. h.1)

pub returns-clause-memory : goal.returns-clause-memory
returns-clause-memory c = listed_fails_at (decoded_in c.args.m.now) flag_text _ c.parenthesized_list.ensures.follows (λ k r le h. h.0)
