use Rattle.std.proofs.Common.{rules, refl}
use Rattle.imap_grammar.proofs.Under.{shorter_ends, exactly_at}
use Rattle.imap_grammar.proofs.Callers.{many_read}
use Rattle.imap_shared.proofs.Takes.{spaced_name_takes}
use Rattle.imap_shared.specs.Capabilities.{capability_value}
use Rattle.imap_shared.specs.Capabilities.{spaced_name}
use Rattle.imap_shared.proofs.readers.capabilities.spaced_names.Goals as goal

pub repeated-requires : goal.repeated-requires
repeated-requires c = λ k. ((refl, tt), (search rules, shorter_ends capability_value spaced_name (λ n r h. exactly_at capability_value spaced_name r h.shows h.says.met) spaced_name_takes))

pub returns : goal.returns
returns c = many_read capability_value spaced_name c.repeated.ensures (λ n r h. exactly_at capability_value spaced_name r h.shows h.says.met)
