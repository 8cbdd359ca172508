use Rattle.std.proofs.Common.{rules, ◌≡◌, ◌⊎◌, ◌∙◌, sym, subst, inl, inr, Err, Fits, w8, get_or}
use Rattle.imap_grammar.specs.declared.answer.Err.TheVariants.{Error}
use Rattle.imap_grammar.specs.Answer.{Gives}
use Rattle.imap_grammar.specs.Step.{step}
use Rattle.imap_grammar.specs.Memory.{BeginsWord}
use Rattle.imap_grammar.proofs.Memory.{same_kind, none_of_kind, none_yielded, exactly_fails}
use Rattle.imap_data.specs.MailboxData.{NamesMayWant, MailboxMayWant}
use Rattle.imap_extensions.specs.Acls.{AclMayWant}
use Rattle.imap_proto.specs.Lines.{response, continuation, tagged, status_line, count_line, fetched_line, vanished_line, quota_line, annotation_line, enabled_line, capability_line, acl_line, mailbox_line, list_line}
use Rattle.imap_proto.specs.Memory.{StatusMayWant, TakesNone}
use Rattle.imap_proto.specs.Responses.{response_value}
use Rattle.imap_proto.proofs.FirstBytes.{response_none, response_plus, response_star, response_other, datum_of_number, datum_of_vanished, datum_of_quota, datum_of_annotation, datum_of_enabled, datum_of_capability, datum_of_acl, datum_of_mailbox, datum_of_list, datum_of_status, datum_of_id, datum_other}
use Rattle.imap_proto.proofs.Memory.{tagged_other, fetched_other, vanished_other, quota_other, annotation_other, enabled_other, capability_other, acl_other, wants_datum, wants_fetched, quota_root_begins}
use Rattle.imap_proto.proofs.Numbered.{number_stopped, number_and_fetch}
use Rattle.imap_proto.proofs.Starred.{starred, moved, first_byte}
use Rattle.imap_proto.proofs.lines.response.Goals as goal
use Rattle.imap_proto.proofs.lines.response.Goals.{in-None-1, in-Some+in-43-1}

pub returns-in-None-clause-memory : goal.returns-in-None-clause-memory
returns-in-None-clause-memory c = elim c.in-None-1.branch [
  | in-None-1 w ↦ same_kind TakesNone response continuation _ _ (response_none _ (search rules)) c.continuation.ensures.memory
  | in-Some+in-43-1 w ↦ same_kind TakesNone response continuation _ _ (response_plus _ (search rules)) c.continuation.ensures.memory
]

pub returns-in-Some-clause-memory : goal.returns-in-Some-clause-memory
returns-in-Some-clause-memory c = same_kind TakesNone response tagged _ _ (response_other _ (search rules) (search rules)) (none_of_kind TakesNone tagged _ _ tagged_other)

pub returns-in-Some-eq102-second-clause-steps : goal.returns-in-Some-eq102-second-clause-steps
returns-in-Some-eq102-second-clause-steps c =
    let fits : Fits w8 (get_or c.in-Ok.rest.now 0 0) = first_byte _ _ _ c.in-Ok.ensures.steps c.type_inv.i in
    let same : step response c.args.i.now ≡ step (fetched_line c.in-Ok-number.n) c.in-Ok-number.rest.now = starred _ _ _ (response_star _ (search rules)) c.in-Ok.ensures.steps ∙ datum_of_number _ (search (rules, fits)) (search rules) ∙ number_and_fetch _ _ _ c.in-Ok-number.ensures.steps (search rules) in
    subst (Gives response_value c.fetched_line.result) (sym same) c.fetched_line.ensures.steps

pub returns-in-Some-eq102-second-clause-memory : goal.returns-in-Some-eq102-second-clause-memory
returns-in-Some-eq102-second-clause-memory c =
    let fits : Fits w8 (get_or c.in-Ok.rest.now 0 0) = first_byte _ _ _ c.in-Ok.ensures.steps c.type_inv.i in
    let same : step response c.args.i.now ≡ step (fetched_line c.in-Ok-number.n) c.in-Ok-number.rest.now = starred _ _ _ (response_star _ (search rules)) c.in-Ok.ensures.steps ∙ datum_of_number _ (search (rules, fits)) (search rules) ∙ number_and_fetch _ _ _ c.in-Ok-number.ensures.steps (search rules) in
    moved TakesNone response (fetched_line c.in-Ok-number.n) _ _ _ same (none_of_kind TakesNone (fetched_line c.in-Ok-number.n) _ _ (fetched_other c.in-Ok-number.n))

pub returns-in-Err-number-clause-steps : goal.returns-in-Err-number-clause-steps
returns-in-Err-number-clause-steps c =
    let fits : Fits w8 (get_or c.in-Ok.rest.now 0 0) = first_byte _ _ _ c.in-Ok.ensures.steps c.type_inv.i in
    let same : step response c.args.i.now ≡ Err c.in-Err-number.e = starred _ _ _ (response_star _ (search rules)) c.in-Ok.ensures.steps ∙ datum_of_number _ (search (rules, fits)) (search rules) ∙ number_stopped _ _ c.in-Err-number.ensures.steps in
    search (rules, same)

pub returns-in-Some-2-clause-steps : goal.returns-in-Some-2-clause-steps
returns-in-Some-2-clause-steps c =
    let fits : Fits w8 (get_or c.in-Ok.rest.now 0 0) = first_byte _ _ _ c.in-Ok.ensures.steps c.type_inv.i in
    rw (c.no_response-in-Some-2.ensures) (starred _ _ _ (response_star _ (search rules)) c.in-Ok.ensures.steps ∙ datum_other _ (search (rules, fits)) (search rules) (search rules))

pub returns-in-Some-2-clause-memory : goal.returns-in-Some-2-clause-memory
returns-in-Some-2-clause-memory c =
    let fits : Fits w8 (get_or c.in-Ok.rest.now 0 0) = first_byte _ _ _ c.in-Ok.ensures.steps c.type_inv.i in
    none_yielded TakesNone response _ Error _ (starred _ _ _ (response_star _ (search rules)) c.in-Ok.ensures.steps ∙ datum_other _ (search (rules, fits)) (search rules) (search rules))

pub returns-in-Some-eq118-clause-memory : goal.returns-in-Some-eq118-clause-memory
returns-in-Some-eq118-clause-memory c =
    moved TakesNone response vanished_line _ _ _ (starred _ _ _ (response_star _ (search rules)) c.in-Ok.ensures.steps ∙ datum_of_vanished _ (search rules)) (none_of_kind TakesNone vanished_line _ _ vanished_other)

pub returns-in-Some-eq113-clause-memory : goal.returns-in-Some-eq113-clause-memory
returns-in-Some-eq113-clause-memory c =
    moved TakesNone response quota_line _ _ _ (starred _ _ _ (response_star _ (search rules)) c.in-Ok.ensures.steps ∙ datum_of_quota _ (search rules)) (none_of_kind TakesNone quota_line _ _ quota_other)

pub returns-in-Some-eq109-clause-memory : goal.returns-in-Some-eq109-clause-memory
returns-in-Some-eq109-clause-memory c =
    moved TakesNone response annotation_line _ _ _ (starred _ _ _ (response_star _ (search rules)) c.in-Ok.ensures.steps ∙ datum_of_annotation _ (search rules)) (none_of_kind TakesNone annotation_line _ _ annotation_other)

pub returns-in-Some-eq101-clause-memory : goal.returns-in-Some-eq101-clause-memory
returns-in-Some-eq101-clause-memory c =
    moved TakesNone response enabled_line _ _ _ (starred _ _ _ (response_star _ (search rules)) c.in-Ok.ensures.steps ∙ datum_of_enabled _ (search rules)) (none_of_kind TakesNone enabled_line _ _ enabled_other)

pub returns-in-Some-eq99-clause-memory : goal.returns-in-Some-eq99-clause-memory
returns-in-Some-eq99-clause-memory c =
    moved TakesNone response capability_line _ _ _ (starred _ _ _ (response_star _ (search rules)) c.in-Ok.ensures.steps ∙ datum_of_capability _ (search rules)) (none_of_kind TakesNone capability_line _ _ capability_other)

pub returns-in-Some-eq97-clause-memory : goal.returns-in-Some-eq97-clause-memory
returns-in-Some-eq97-clause-memory c =
    moved TakesNone response acl_line _ _ _ (starred _ _ _ (response_star _ (search rules)) c.in-Ok.ensures.steps ∙ datum_of_acl _ (search rules)) (none_of_kind TakesNone acl_line _ _ acl_other)

pub returns-in-Some-eq108-clause-memory : goal.returns-in-Some-eq108-clause-memory
returns-in-Some-eq108-clause-memory c =
    moved TakesNone response list_line _ _ _ (starred _ _ _ (response_star _ (search rules)) c.in-Ok.ensures.steps ∙ datum_of_list _ (search rules)) c.list_line.ensures.memory

pub returns-in-Some-eq102-clause-memory : goal.returns-in-Some-eq102-clause-memory
returns-in-Some-eq102-clause-memory c =
    moved TakesNone response mailbox_line _ _ _ (starred _ _ _ (response_star _ (search rules)) c.in-Ok.ensures.steps ∙ datum_of_mailbox _ (search rules)) c.mailbox_line.ensures.memory

pub returns-in-Some-eq111-clause-memory : goal.returns-in-Some-eq111-clause-memory
returns-in-Some-eq111-clause-memory c =
    moved TakesNone response status_line _ _ _ (starred _ _ _ (response_star _ (search rules)) c.in-Ok.ensures.steps ∙ datum_of_status _ (search rules)) c.status_line.ensures.memory

-- ---- behind what memory may be wanted

pub returns-in-Some-eq111-clause-failure : goal.returns-in-Some-eq111-clause-failure
returns-in-Some-eq111-clause-failure c = wants_datum StatusMayWant _ _ _ _ (λ r p. inl p) c.in-Ok.ensures.steps c.status_line.ensures.failure

pub returns-in-Some-eq102-clause-failure : goal.returns-in-Some-eq102-clause-failure
returns-in-Some-eq102-clause-failure c = wants_datum MailboxMayWant _ _ _ _ (λ r p. inr (inr (inl (inl p)))) c.in-Ok.ensures.steps c.mailbox_line.ensures.failure

pub returns-in-Some-eq108-clause-failure : goal.returns-in-Some-eq108-clause-failure
returns-in-Some-eq108-clause-failure c = wants_datum (λ r. NamesMayWant r ⊎ BeginsWord "LISTRIGHTS" r) _ _ _ _ (λ r p. elim p [ inl q ↦ inr (inr (inl (inl (inr (inl q))))) | inr b ↦ inr (inr (inr (inr (inr (inr (inr (inr (inr (inl b))))))))) ]) c.in-Ok.ensures.steps c.list_line.ensures.failure

pub returns-in-Some-eq99-clause-failure : goal.returns-in-Some-eq99-clause-failure
returns-in-Some-eq99-clause-failure c = wants_datum (BeginsWord "CAPABILITY") _ _ _ _ (λ r p. inr (inr (inr (inl p)))) c.in-Ok.ensures.steps c.capability_line.ensures.failure

pub returns-in-Some-eq101-clause-failure : goal.returns-in-Some-eq101-clause-failure
returns-in-Some-eq101-clause-failure c = wants_datum (BeginsWord "ENABLED") _ _ _ _ (λ r p. inr (inr (inr (inr (inl p))))) c.in-Ok.ensures.steps c.enabled_line.ensures.failure

pub returns-in-Some-eq109-clause-failure : goal.returns-in-Some-eq109-clause-failure
returns-in-Some-eq109-clause-failure c = wants_datum (λ r. BeginsWord "METADATA " r ⊎ BeginsWord "MYRIGHTS" r) _ _ _ _ (λ r p. elim p [ inl b ↦ inr (inr (inl (inr b))) | inr b ↦ inr (inr (inr (inr (inr (inr (inr (inr (inr (inr b))))))))) ]) c.in-Ok.ensures.steps c.annotation_line.ensures.failure

pub returns-in-Some-eq118-clause-failure : goal.returns-in-Some-eq118-clause-failure
returns-in-Some-eq118-clause-failure c = wants_datum (BeginsWord "VANISHED") _ _ _ _ (λ r p. inr (inr (inr (inr (inr (inl p)))))) c.in-Ok.ensures.steps c.vanished_line.ensures.failure

pub returns-in-Some-eq113-clause-failure : goal.returns-in-Some-eq113-clause-failure
returns-in-Some-eq113-clause-failure c = wants_datum (λ r. BeginsWord "QUOTA" r ⊎ BeginsWord "QUOTAROOT" r) _ _ _ _ (λ r p. elim p [ inl b ↦ inr (inr (inr (inr (inr (inr (inl b)))))) | inr b ↦ inr (inr (inr (inr (inr (inr (inl (quota_root_begins r b))))))) ]) c.in-Ok.ensures.steps c.quota_line.ensures.failure

pub returns-in-Some-eq105-clause-failure : goal.returns-in-Some-eq105-clause-failure
returns-in-Some-eq105-clause-failure c = wants_datum (BeginsWord "ID") _ _ _ _ (λ r p. inr (inr (inr (inr (inr (inr (inr (inl p)))))))) c.in-Ok.ensures.steps c.id_line.ensures.failure

pub returns-in-Some-eq97-clause-failure : goal.returns-in-Some-eq97-clause-failure
returns-in-Some-eq97-clause-failure c = wants_datum AclMayWant _ _ _ _ (λ r p. inr (inr (inr (inr (inr (inr (inr (inr (inl p))))))))) c.in-Ok.ensures.steps c.acl_line.ensures.failure

pub returns-in-Some-eq102-second-clause-failure : goal.returns-in-Some-eq102-second-clause-failure
returns-in-Some-eq102-second-clause-failure c = wants_fetched _ _ _ _ _ _ c.in-Ok.ensures.steps c.in-Ok-number.ensures.steps c.fetched_line.ensures.failure

pub returns-in_default-clause-failure : goal.returns-in_default-clause-failure
returns-in_default-clause-failure c = exactly_fails _ response_value (count_line c.in-Ok-number.n) c.in-Ok-number.rest.now c.count_line.result c.count_line.ensures

-- ---- the data lines

pub returns-in-Some-eq111-clause-steps : goal.returns-in-Some-eq111-clause-steps
returns-in-Some-eq111-clause-steps c =
    subst (Gives response_value c.status_line.result) (sym (starred _ _ _ (response_star _ (search rules)) c.in-Ok.ensures.steps ∙ datum_of_status _ (search rules))) c.status_line.ensures.steps

pub returns-in-Some-eq102-clause-steps : goal.returns-in-Some-eq102-clause-steps
returns-in-Some-eq102-clause-steps c =
    subst (Gives response_value c.mailbox_line.result) (sym (starred _ _ _ (response_star _ (search rules)) c.in-Ok.ensures.steps ∙ datum_of_mailbox _ (search rules))) c.mailbox_line.ensures.steps

pub returns-in-Some-eq108-clause-steps : goal.returns-in-Some-eq108-clause-steps
returns-in-Some-eq108-clause-steps c =
    subst (Gives response_value c.list_line.result) (sym (starred _ _ _ (response_star _ (search rules)) c.in-Ok.ensures.steps ∙ datum_of_list _ (search rules))) c.list_line.ensures.steps

pub returns-in-Some-eq99-clause-steps : goal.returns-in-Some-eq99-clause-steps
returns-in-Some-eq99-clause-steps c =
    subst (Gives response_value c.capability_line.result) (sym (starred _ _ _ (response_star _ (search rules)) c.in-Ok.ensures.steps ∙ datum_of_capability _ (search rules))) c.capability_line.ensures.steps

pub returns-in-Some-eq101-clause-steps : goal.returns-in-Some-eq101-clause-steps
returns-in-Some-eq101-clause-steps c =
    subst (Gives response_value c.enabled_line.result) (sym (starred _ _ _ (response_star _ (search rules)) c.in-Ok.ensures.steps ∙ datum_of_enabled _ (search rules))) c.enabled_line.ensures.steps

pub returns-in-Some-eq109-clause-steps : goal.returns-in-Some-eq109-clause-steps
returns-in-Some-eq109-clause-steps c =
    subst (Gives response_value c.annotation_line.result) (sym (starred _ _ _ (response_star _ (search rules)) c.in-Ok.ensures.steps ∙ datum_of_annotation _ (search rules))) c.annotation_line.ensures.steps

pub returns-in-Some-eq118-clause-steps : goal.returns-in-Some-eq118-clause-steps
returns-in-Some-eq118-clause-steps c =
    subst (Gives response_value c.vanished_line.result) (sym (starred _ _ _ (response_star _ (search rules)) c.in-Ok.ensures.steps ∙ datum_of_vanished _ (search rules))) c.vanished_line.ensures.steps

pub returns-in-Some-eq113-clause-steps : goal.returns-in-Some-eq113-clause-steps
returns-in-Some-eq113-clause-steps c =
    subst (Gives response_value c.quota_line.result) (sym (starred _ _ _ (response_star _ (search rules)) c.in-Ok.ensures.steps ∙ datum_of_quota _ (search rules))) c.quota_line.ensures.steps

pub returns-in-Some-eq105-clause-steps : goal.returns-in-Some-eq105-clause-steps
returns-in-Some-eq105-clause-steps c =
    subst (Gives response_value c.id_line.result) (sym (starred _ _ _ (response_star _ (search rules)) c.in-Ok.ensures.steps ∙ datum_of_id _ (search rules))) c.id_line.ensures.steps

pub returns-in-Some-eq97-clause-steps : goal.returns-in-Some-eq97-clause-steps
returns-in-Some-eq97-clause-steps c =
    subst (Gives response_value c.acl_line.result) (sym (starred _ _ _ (response_star _ (search rules)) c.in-Ok.ensures.steps ∙ datum_of_acl _ (search rules))) c.acl_line.ensures.steps
