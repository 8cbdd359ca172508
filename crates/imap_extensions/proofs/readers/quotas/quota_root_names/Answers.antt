use Rattle.std.proofs.Common.{rules, refl}
use Rattle.imap_grammar.specs.Text.{text_of}
use Rattle.imap_grammar.proofs.Under.{shorter_ends, kept_at}
use Rattle.imap_grammar.proofs.Callers.{many_read}
use Rattle.imap_extensions.proofs.Takes.{quota_root_name_takes}
use Rattle.imap_extensions.specs.Quotas.{quota_root_name, quota_root_names}
use Rattle.imap_extensions.proofs.readers.quotas.quota_root_names.Goals as goal

pub repeated-requires : goal.repeated-requires
repeated-requires c = λ k. ((refl, tt), (search rules, shorter_ends text_of quota_root_name (λ n r h. kept_at text_of quota_root_name r h.shows h.says.met) quota_root_name_takes))

pub returns : goal.returns
unfolding quota_root_names
returns c = many_read text_of quota_root_name c.repeated.ensures (λ n r h. kept_at text_of quota_root_name r h.shows h.says.met)
