use Rattle.imap_grammar.specs.Text.{text_of}
use Rattle.imap_grammar.proofs.PositionUnder.{listed_at, advances_at}
use Rattle.imap_shared.proofs.Takes.{gmail_label_takes}
use Rattle.imap_shared.specs.Gmail.{gmail_label, gmail_labels}
use Rattle.imap_shared.proofs.readers.gmail.gmail_labels.Goals as goal

pub parenthesized_list-requires-clause-advances : goal.parenthesized_list-requires-clause-advances
parenthesized_list-requires-clause-advances c = advances_at text_of gmail_label (λ k r le h. h.0) (λ k r le h. h.1) gmail_label_takes

pub returns : goal.returns
unfolding gmail_labels
returns c = (listed_at text_of gmail_label c.parenthesized_list.ensures.follows (λ k r le h. h.0), c.parenthesized_list.ensures.ahead)
