use Rattle.std.proofs.Common.{rules, refl}
use Rattle.imap_grammar.specs.declared.lists.Separator.TheVariants.{Blanks}
use Rattle.imap_grammar.proofs.Under.{shorter_ends, kept_at}
use Rattle.imap_grammar.proofs.Callers.{maybe_separated_read}
use Rattle.imap_extensions.proofs.Takes.{quota_resource_takes}
use Rattle.imap_extensions.specs.Quotas.{quota_resource, quota_resources}
use Rattle.imap_extensions.specs.Quotas.{quota_resource_value}
use Rattle.imap_extensions.proofs.readers.quotas.quota_resources.Goals as goal

pub maybe_separated-requires : goal.maybe_separated-requires
maybe_separated-requires c = λ k. ((refl, tt), (search rules, shorter_ends quota_resource_value quota_resource (λ n r h. kept_at quota_resource_value quota_resource r h.shows h.says.met) quota_resource_takes))

pub returns : goal.returns
unfolding quota_resources
returns c = maybe_separated_read Blanks quota_resource_value quota_resource c.maybe_separated.ensures (λ n r h. kept_at quota_resource_value quota_resource r h.shows h.says.met)
