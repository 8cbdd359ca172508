use Rattle.std.proofs.Common.{rules, refl}
use Rattle.imap_grammar.specs.declared.lists.Separator.TheVariants.{Blanks}
use Rattle.imap_grammar.proofs.Under.{shorter_ends, kept_at}
use Rattle.imap_grammar.proofs.Callers.{maybe_separated_read}
use Rattle.imap_shared.proofs.Takes.{rights_take}
use Rattle.imap_shared.specs.Rights.{rights}
use Rattle.imap_extensions.specs.Acls.{right_groups}
use Rattle.imap_extensions.proofs.readers.acls.right_groups.Goals as goal

pub maybe_separated-requires : goal.maybe_separated-requires
maybe_separated-requires c = λ k. ((refl, tt), (search rules, shorter_ends (λ x. x.items) rights (λ n r h. kept_at (λ x. x.items) rights r h.shows h.says.met) rights_take))

pub returns : goal.returns
unfolding right_groups
returns c = maybe_separated_read Blanks (λ x. x.items) rights c.maybe_separated.ensures (λ n r h. kept_at (λ x. x.items) rights r h.shows h.says.met)
