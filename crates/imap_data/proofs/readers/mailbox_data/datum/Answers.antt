use Rattle.std.proofs.Common.{rules, inl, inr}
use Rattle.imap_grammar.proofs.Memory.{same_kind, none_of_kind, fails_apart, exactly_fails, wider}
use Rattle.imap_data.specs.DatumValues.{datum_value, IsNumber}
use Rattle.imap_data.specs.MailboxData.{mailbox_datum, flags, list_or_lsub, datum_of_s, datum_of_x, datum_of_number}
use Rattle.imap_data.proofs.FirstBytes.{datum_is_flags, datum_is_list_or_lsub, datum_is_of_s, datum_is_of_x}
use Rattle.imap_data.proofs.NumberData.{flags_other, list_or_lsub_other, of_s_other, labels_other}
use Rattle.imap_data.proofs.readers.mailbox_data.datum.Goals as goal

pub returns-in-Some-eq102-clause-memory : goal.returns-in-Some-eq102-clause-memory
returns-in-Some-eq102-clause-memory c = same_kind IsNumber mailbox_datum flags _ _ (datum_is_flags _ (search rules)) (none_of_kind IsNumber flags _ _ flags_other)

pub returns-in-Some-eq108-clause-memory : goal.returns-in-Some-eq108-clause-memory
returns-in-Some-eq108-clause-memory c = same_kind IsNumber mailbox_datum list_or_lsub _ _ (datum_is_list_or_lsub _ (search rules)) (none_of_kind IsNumber list_or_lsub _ _ list_or_lsub_other)

pub returns-in-Some-eq115-clause-memory : goal.returns-in-Some-eq115-clause-memory
returns-in-Some-eq115-clause-memory c = same_kind IsNumber mailbox_datum datum_of_s _ _ (datum_is_of_s _ (search rules)) (none_of_kind IsNumber datum_of_s _ _ of_s_other)

pub returns-in-Some-eq120-clause-memory : goal.returns-in-Some-eq120-clause-memory
returns-in-Some-eq120-clause-memory c =
    let x = c.datum_of_x.ensures in
    same_kind IsNumber mailbox_datum datum_of_x _ _ (datum_is_of_x _ (search rules)) (fails_apart _ IsNumber datum_value datum_of_x _ _ x.steps x.memory (λ v rest is k b. labels_other v _ rest b is k))

pub returns-in-Some-eq115-clause-worded : goal.returns-in-Some-eq115-clause-worded
returns-in-Some-eq115-clause-worded c = wider _ _ c.datum_of_s.result (λ h. inr (inr (inr h))) c.datum_of_s.ensures.memory

pub returns-in-Some-clause-worded : goal.returns-in-Some-clause-worded
returns-in-Some-clause-worded c = exactly_fails _ datum_value datum_of_number _ _ c.datum_of_number.ensures

pub returns-in-Some-eq102-clause-worded : goal.returns-in-Some-eq102-clause-worded
returns-in-Some-eq102-clause-worded c = wider _ _ c.flags.result (λ h. inl h) c.flags.ensures.memory

pub returns-in-Some-eq108-clause-worded : goal.returns-in-Some-eq108-clause-worded
returns-in-Some-eq108-clause-worded c = wider _ _ c.list_or_lsub.result (λ h. inr (inl h)) c.list_or_lsub.ensures.memory

pub returns-in-Some-eq120-clause-worded : goal.returns-in-Some-eq120-clause-worded
returns-in-Some-eq120-clause-worded c = wider _ _ c.datum_of_x.result (λ h. inr (inr (inl h))) c.datum_of_x.ensures.memory
