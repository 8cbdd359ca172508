use Rattle.imap_grammar.proofs.PositionUnder.{listed_at, advances_at, exact_at}
use Rattle.imap_grammar.proofs.PositionItems.{inside_ahead, listed_inside}
use Rattle.imap_shared.specs.Gmail.{gmail_label, gmail_labels}
use Rattle.imap_shared.specs.Spanned.{decoded_in}
use Rattle.imap_shared.proofs.Takes.{gmail_label_takes}
use Rattle.imap_shared.proofs.at.gmail.gmail_labels.Goals as goal

pub parenthesized_list-requires-clause-advances : goal.parenthesized_list-requires-clause-advances
parenthesized_list-requires-clause-advances c = advances_at (decoded_in c.args.m.now) gmail_label (λ k r le h. exact_at _ _ _ r h.0) (λ k r le h. inside_ahead _ _ r h.1) gmail_label_takes

pub returns-clause-steps : goal.returns-clause-steps
unfolding gmail_labels
returns-clause-steps c = listed_at (decoded_in c.args.m.now) gmail_label c.parenthesized_list.ensures.follows (λ k r le h. exact_at _ _ _ r h.0)

pub returns-clause-inside : goal.returns-clause-inside
returns-clause-inside c = listed_inside _ c.parenthesized_list.ensures.follows c.requires (advances_at (decoded_in c.args.m.now) gmail_label (λ k r le h. exact_at _ _ _ r h.0) (λ k r le h. inside_ahead _ _ r h.1) gmail_label_takes) (λ k r le h. h.1)
