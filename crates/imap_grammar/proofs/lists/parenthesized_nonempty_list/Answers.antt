use Rattle.std.proofs.Common.{rules}
use Rattle.imap_grammar.proofs.Sliced.{sliced_advances, sliced_fault, sliced_found, nonempty_list_within}
use Rattle.imap_grammar.proofs.lists.parenthesized_nonempty_list.Goals as goal

pub parenthesized_nonempty_list-requires : goal.parenthesized_nonempty_list-requires
parenthesized_nonempty_list-requires g c = λ k. record { start = search rules; may = search rules; advances = sliced_advances c.requires.shortens (λ p r le h. h.0) (λ p r le h. h.1) }

pub returns-in_err-q : goal.returns-in_err-q
returns-in_err-q g c = sliced_fault c.in_err-q.field-0.0 c.in_err-q.ensures.follows (λ p r le h. h.0) nonempty_list_within (search rules)

pub returns : goal.returns
returns g c = sliced_found c.in_ok-q.q c.in_ok-q.items c.rest.result c.in_ok-q.ensures.follows (λ p r le h. h.0) nonempty_list_within c.rest.ensures
