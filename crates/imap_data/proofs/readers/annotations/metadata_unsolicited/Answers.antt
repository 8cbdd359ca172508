use Rattle.std.proofs.Common.{◌≡◌, rules, Err, refl, sym, subst}
use Rattle.imap_grammar.specs.Memory.{BeginsWord, FailsOnlyIf}
use Rattle.imap_grammar.proofs.Agreement.{answered}
use Rattle.imap_grammar.proofs.Memory.{holds_already}
use Rattle.imap_data.proofs.Annotations.{begins_metadata, owned_mailbox_begins}
use Rattle.imap_data.specs.Annotations.{metadata_unsolicited}
use Rattle.imap_data.proofs.readers.annotations.metadata_unsolicited.Goals as goal

pub returns-in_err-rest-clause-memory : goal.returns-in_err-rest-clause-memory
returns-in_err-rest-clause-memory c =
    let is : c.from_residual.result ≡ Err c.in_err-rest.field-0.0 = search rules in
    let h : FailsOnlyIf (BeginsWord "METADATA " c.args.i.now) c.metadata_mailbox.result = owned_mailbox_begins c.args.i.now c.metadata_mailbox.result c.metadata_mailbox.ensures.memory in
    subst (FailsOnlyIf (BeginsWord "METADATA " c.args.i.now)) (sym is) (rw c.in_err-rest.was at h)

pub returns-in_err-rest-2-clause-memory : goal.returns-in_err-rest-2-clause-memory
returns-in_err-rest-2-clause-memory c = holds_already _ c.from_residual-in_err-rest-2.result (begins_metadata _ _ _ c.in_ok-rest.ensures.steps)

pub returns-clause-steps : goal.returns-clause-steps
unfolding metadata_unsolicited
returns-clause-steps c = rw (c.in_ok-rest.ensures.steps, c.in_ok-rest-2.ensures.steps) refl

pub returns-clause-answer : goal.returns-clause-answer
returns-clause-answer c = answered _ _ _ _ (returns-clause-steps c)
