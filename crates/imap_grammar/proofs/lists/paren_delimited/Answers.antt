use Rattle.std.proofs.Common.{rules}
use Rattle.imap_grammar.proofs.Sliced.{sliced_fault, sliced_found, delimited_within}
use Rattle.imap_grammar.proofs.lists.paren_delimited.Goals as goal

pub returns-in_err-q : goal.returns-in_err-q
returns-in_err-q g c = sliced_fault c.in_err-q.field-0.0 c.in_err-q.ensures.follows (λ p r le h. h.0) delimited_within (search rules)

pub returns : goal.returns
returns g c = sliced_found c.in_ok-q.q c.in_ok-q.item c.rest.result c.in_ok-q.ensures.follows (λ p r le h. h.0) delimited_within c.rest.ensures
