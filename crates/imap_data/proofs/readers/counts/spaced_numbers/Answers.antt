use Rattle.std.proofs.Common.{rules, refl}
use Rattle.imap_grammar.proofs.Under.{shorter_ends, exactly_at, exact_still}
use Rattle.imap_data.specs.Counts.{found_number}
use Rattle.imap_grammar.proofs.Callers.{many_read, many_fails}
use Rattle.imap_data.proofs.Takes.{found_number_takes}
use Rattle.imap_grammar.proofs.Plain.{plain}
use Rattle.imap_data.proofs.readers.counts.spaced_numbers.Goals as goal

pub repeated-requires : goal.repeated-requires
repeated-requires c = λ k. ((refl, tt), (search rules, shorter_ends (λ x. x) found_number (λ n r h. exactly_at (λ x. x) found_number r h.shows h.says.met) found_number_takes))

pub returns-clause-steps : goal.returns-clause-steps
returns-clause-steps c = plain _ _ (many_read (λ x. x) found_number c.repeated.ensures (λ n r h. exactly_at (λ x. x) found_number r h.shows h.says.met))

pub returns-clause-memory : goal.returns-clause-memory
returns-clause-memory c = many_fails (λ x. x) found_number _ c.repeated.ensures (λ n r h. exact_still (λ x. x) found_number r h.shows h.says.met)
