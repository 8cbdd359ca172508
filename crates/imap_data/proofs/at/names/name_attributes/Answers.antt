use Rattle.imap_grammar.proofs.PositionUnder.{listed_at, listed_fails_at, advances_at, exact_at}
use Rattle.imap_data.proofs.Takes.{name_attribute_takes}
use Rattle.imap_data.specs.Names.{name_attribute, name_attributes, name_attribute_value}
use Rattle.imap_data.proofs.at.names.name_attributes.Goals as goal

pub parenthesized_list-requires-clause-advances : goal.parenthesized_list-requires-clause-advances
parenthesized_list-requires-clause-advances c = advances_at name_attribute_value name_attribute (λ k r le h. exact_at _ _ _ r h.0) (λ k r le h. h.1) name_attribute_takes

pub returns-clause-reads : goal.returns-clause-reads
unfolding name_attributes
returns-clause-reads c = (listed_at name_attribute_value name_attribute c.parenthesized_list.ensures.follows (λ k r le h. exact_at _ _ _ r h.0), c.parenthesized_list.ensures.ahead)

pub returns-clause-memory : goal.returns-clause-memory
returns-clause-memory c = listed_fails_at name_attribute_value name_attribute _ c.parenthesized_list.ensures.follows (λ k r le h. h.0)
