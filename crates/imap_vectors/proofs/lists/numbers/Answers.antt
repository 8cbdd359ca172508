use Rattle.std.proofs.Common.{rules, refl}
use Rattle.imap_grammar.proofs.Under.{shorter_ends, exactly_at}
use Rattle.imap_grammar.proofs.Callers.{listed}
use Rattle.imap_grammar.proofs.Plain.{plain}
use Rattle.imap_bytes.specs.Numbers.{number, digits}
use Rattle.imap_vectors.proofs.lists.numbers.Goals as goal

pub parenthesized_list-requires : goal.parenthesized_list-requires
unfolding number digits
parenthesized_list-requires c = λ k. ((refl, tt), (search rules, shorter_ends (λ x. x) number (λ n r h. exactly_at (λ x. x) number r h.shows h.says.met.0) refl))

pub returns : goal.returns
returns c = plain _ _ (listed (λ x. x) number c.parenthesized_list.ensures (λ n r h. exactly_at (λ x. x) number r h.shows h.says.met.0))
