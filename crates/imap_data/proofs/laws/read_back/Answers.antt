use Rattle.std.proofs.Common.{refl}
use Rattle.imap_grammar.specs.Meaning.{outside}
use Rattle.imap_grammar.proofs.Reading.{closes-in}
use Rattle.imap_grammar.proofs.Keeping.{keeps-anywhere, keeps-follow}
use Rattle.imap_bytes.proofs.ReadingSets.{in_set}
use Rattle.imap_shared.proofs.StatusTexts.{keeps_status}
use Rattle.imap_shared.proofs.FlagTexts.{keeps_flag, keeps_flag_perm, keeps_flag_list}
use Rattle.imap_shared.proofs.GmailTexts.{keeps_label_list, keeps_msgid, keeps_thrid}
use Rattle.imap_shared.proofs.CapabilityTexts.{keeps_capability_data, keeps_enabled_data}
use Rattle.imap_shared.proofs.UidSetTexts.{keeps_uid_set}
use Rattle.imap_shared.proofs.MailboxTexts.{keeps_mailbox}
use Rattle.imap_shared.proofs.RightTexts.{keeps_rights}
use Rattle.imap_extensions.proofs.QuotaTexts.{keeps_quota, keeps_quota_root}
use Rattle.imap_extensions.proofs.IdTexts.{keeps_id}
use Rattle.imap_extensions.proofs.VanishingTexts.{keeps_vanished}
use Rattle.imap_extensions.proofs.AclTexts.{keeps_acl, keeps_my_rights}
use Rattle.imap_extensions.proofs.OptionalRights.{keeps_list_rights}
use Rattle.imap_data.proofs.CodeTexts.{keeps_response_code}
use Rattle.imap_data.proofs.MailboxDataTexts.{keeps_mailbox_datum, keeps_list_or_lsub}
use Rattle.imap_data.proofs.AnnotationTexts.{keeps_metadata_mailbox, keeps_annotations, keeps_entries}
use Rattle.imap_data.proofs.AnnotationTexts.{keeps_solicited, keeps_unsolicited}
use Rattle.imap_data.proofs.laws.read_back.Goals as goal

pub returns-clause-status : goal.returns-clause-status
returns-clause-status c = keeps-anywhere keeps_status

pub returns-clause-flag : goal.returns-clause-flag
returns-clause-flag c = keeps_flag

pub returns-clause-flag_perm : goal.returns-clause-flag_perm
returns-clause-flag_perm c = keeps_flag_perm

pub returns-clause-flag_list : goal.returns-clause-flag_list
returns-clause-flag_list c = keeps-anywhere keeps_flag_list

pub returns-clause-gmail_label_list : goal.returns-clause-gmail_label_list
returns-clause-gmail_label_list c = keeps-anywhere keeps_label_list

pub returns-clause-gmail_msgid : goal.returns-clause-gmail_msgid
returns-clause-gmail_msgid c = keeps_msgid

pub returns-clause-gmail_thrid : goal.returns-clause-gmail_thrid
returns-clause-gmail_thrid c = keeps_thrid

pub returns-clause-capability_data : goal.returns-clause-capability_data
returns-clause-capability_data c = keeps_capability_data

pub returns-clause-enabled_data : goal.returns-clause-enabled_data
returns-clause-enabled_data c = keeps_enabled_data

pub returns-clause-uid_set : goal.returns-clause-uid_set
returns-clause-uid_set c = keeps-follow keeps_uid_set (closes-in (outside in_set) refl refl)

pub returns-clause-mailbox : goal.returns-clause-mailbox
returns-clause-mailbox c = keeps-anywhere keeps_mailbox

pub returns-clause-response_code : goal.returns-clause-response_code
returns-clause-response_code c = keeps-anywhere keeps_response_code

pub returns-clause-mailbox_datum : goal.returns-clause-mailbox_datum
returns-clause-mailbox_datum c = keeps_mailbox_datum

pub returns-clause-list_or_lsub : goal.returns-clause-list_or_lsub
returns-clause-list_or_lsub c = keeps_list_or_lsub

pub returns-clause-quota : goal.returns-clause-quota
returns-clause-quota c = keeps-anywhere keeps_quota

pub returns-clause-quota_root : goal.returns-clause-quota_root
returns-clause-quota_root c = keeps_quota_root

pub returns-clause-id : goal.returns-clause-id
returns-clause-id c = keeps_id

pub returns-clause-vanished : goal.returns-clause-vanished
returns-clause-vanished c = keeps_vanished

pub returns-clause-metadata_mailbox : goal.returns-clause-metadata_mailbox
returns-clause-metadata_mailbox c = keeps-anywhere keeps_metadata_mailbox

pub returns-clause-annotations : goal.returns-clause-annotations
returns-clause-annotations c = keeps-anywhere keeps_annotations

pub returns-clause-entries : goal.returns-clause-entries
returns-clause-entries c = keeps_entries

pub returns-clause-metadata_solicited : goal.returns-clause-metadata_solicited
returns-clause-metadata_solicited c = keeps-anywhere keeps_solicited

pub returns-clause-metadata_unsolicited : goal.returns-clause-metadata_unsolicited
returns-clause-metadata_unsolicited c = keeps_unsolicited

pub returns-clause-rights : goal.returns-clause-rights
returns-clause-rights c = keeps-anywhere keeps_rights

pub returns-clause-acl : goal.returns-clause-acl
returns-clause-acl c = keeps_acl

pub returns-clause-list_rights : goal.returns-clause-list_rights
returns-clause-list_rights c = keeps_list_rights

pub returns-clause-my_rights : goal.returns-clause-my_rights
returns-clause-my_rights c = keeps-anywhere keeps_my_rights
