use Rattle.std.proofs.Common.{Ok, rules, refl, subst}
use Rattle.imap_grammar.specs.declared.lists.Separator.TheVariants.{Blanks}
use Rattle.imap_grammar.specs.Memory.{StartsWith}
use Rattle.imap_grammar.proofs.Under.{shorter_ends, kept_at}
use Rattle.imap_grammar.proofs.Callers.{maybe_separated_read, maybe_separated_wants}
use Rattle.imap_bytes.specs.Texts.{astring_utf8}
use Rattle.imap_extensions.proofs.AclWants.{entry_starts}
use Rattle.imap_extensions.proofs.Takes.{acl_entry_takes}
use Rattle.imap_extensions.specs.Acls.{acl_entry, acl_entries, acl_entry_value}
use Rattle.imap_extensions.proofs.readers.acls.acl_entries.Goals as goal

pub maybe_separated-requires : goal.maybe_separated-requires
maybe_separated-requires c = λ k. ((refl, tt), (search rules, shorter_ends acl_entry_value acl_entry (λ n r h. kept_at acl_entry_value acl_entry r h.shows h.says.met.0) acl_entry_takes))

pub returns-clause-steps : goal.returns-clause-steps
unfolding acl_entries
returns-clause-steps c = maybe_separated_read Blanks acl_entry_value acl_entry c.maybe_separated.ensures (λ n r h. kept_at acl_entry_value acl_entry r h.shows h.says.met.0)

pub returns-clause-memory : goal.returns-clause-memory
returns-clause-memory c =
    maybe_separated_wants Blanks (StartsWith astring_utf8 c.args.i.now) _ c.maybe_separated.ensures
    (λ left x h. entry_starts c.args.i.now left.now (acl_entry_value x) (kept_at acl_entry_value acl_entry (Ok (left, x)) h.shows h.says.met.0))
    (λ h. subst (StartsWith astring_utf8) h.shows (h.says.met.1 refl))
