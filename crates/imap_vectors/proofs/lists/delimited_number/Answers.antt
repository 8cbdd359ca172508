use Rattle.std.proofs.Common.{rules, refl, subst}
use Rattle.imap_grammar.specs.Answer.{Exactly}
use Rattle.imap_grammar.specs.Step.{step}
use Rattle.imap_grammar.proofs.Callers.{delimited_exactly}
use Rattle.imap_grammar.proofs.Under.{kept_ends, exactly_at}
use Rattle.imap_bytes.specs.Numbers.{number}
use Rattle.imap_vectors.proofs.lists.delimited_number.Goals as goal

pub paren_delimited-requires : goal.paren_delimited-requires
paren_delimited-requires c = λ k. ((refl, tt), (search rules, kept_ends (λ x. x) number (λ n r h. exactly_at (λ x. x) number r h.shows h.says.met.0)))

pub returns : goal.returns
returns c = delimited_exactly (λ x. x) number c.paren_delimited.ensures (λ n r h. subst (λ k. Exactly (λ x. x) r (step number k)) h.shows h.says.met.0)
