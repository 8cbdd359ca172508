use Rattle.std.proofs.Common.{rules, refl}
use Rattle.imap_grammar.proofs.Under.{shorter_ends, exactly_at}
use Rattle.imap_bytes.specs.Strings.{literal, literal_header}
use Rattle.imap_vectors.proofs.lists.literals.Goals as goal

pub parenthesized_list-requires : goal.parenthesized_list-requires
unfolding literal literal_header
parenthesized_list-requires c = λ k. ((refl, tt), (search rules, shorter_ends (λ x. x.now) literal (λ n r h. exactly_at (λ x. x.now) literal r h.shows h.says.met.0) refl))
