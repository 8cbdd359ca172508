use Rattle.std.proofs.Common.{rules, refl}
use Rattle.imap_grammar.proofs.Agreement.{answered}
use Rattle.imap_grammar.proofs.Under.{shorter_ends, kept_at}
use Rattle.imap_grammar.proofs.Callers.{nonempty_listed}
use Rattle.imap_data.proofs.Takes.{annotation_takes}
use Rattle.imap_data.specs.Annotations.{annotation, annotations}
use Rattle.imap_data.specs.AnnotationValues.{metadata_value}
use Rattle.imap_data.proofs.readers.annotations.annotations.Goals as goal

pub parenthesized_nonempty_list-requires : goal.parenthesized_nonempty_list-requires
parenthesized_nonempty_list-requires c = λ k. ((refl, tt), (search rules, shorter_ends metadata_value annotation (λ n r h. kept_at metadata_value annotation r h.shows h.says.met) annotation_takes))

pub returns-clause-steps : goal.returns-clause-steps
unfolding annotations
returns-clause-steps c = nonempty_listed metadata_value annotation c.parenthesized_nonempty_list.ensures (λ n r h. kept_at metadata_value annotation r h.shows h.says.met)

pub returns-clause-answer : goal.returns-clause-answer
returns-clause-answer c = answered _ _ _ _ (returns-clause-steps c)
