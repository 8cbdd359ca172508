use Rattle.std.proofs.Common.{rules, refl, Some}
use Rattle.imap_grammar.specs.Rule.{gives}
use Rattle.imap_grammar.proofs.Under.{kept_ends, exactly_at}
use Rattle.imap_bytes.specs.Numbers.{number}
use Rattle.imap_vectors.proofs.lists.maybe_number.Goals as goal

pub opt_opt-requires : goal.opt_opt-requires
opt_opt-requires c = λ k. ((refl, tt), (search rules, kept_ends (λ x. x) (gives Some number) (λ n r h. exactly_at (λ x. x) (gives Some number) r h.shows h.says.met)))
