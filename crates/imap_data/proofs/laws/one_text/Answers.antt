use Rattle.std.proofs.Common.{map, refl}
use Rattle.std.specs.Option.{option_map}
use Rattle.imap_grammar.specs.Text.{lent_text}
use Rattle.imap_grammar.proofs.OneText.{one_text}
use Rattle.imap_shared.specs.Capabilities.{lent_capability}
use Rattle.imap_shared.specs.CapabilityTexts.{canonical_capabilities}
use Rattle.imap_shared.specs.FlagTexts.{canonical_flag_list}
use Rattle.imap_shared.specs.GmailTexts.{canonical_label_list}
use Rattle.imap_shared.specs.MailboxTexts.{canonical_mailbox}
use Rattle.imap_extensions.specs.Quotas.{lent_quota, lent_quota_root}
use Rattle.imap_extensions.specs.QuotaTexts.{canonical_quota, canonical_quota_root}
use Rattle.imap_extensions.specs.Ids.{lent_id}
use Rattle.imap_extensions.specs.IdTexts.{canonical_id}
use Rattle.imap_extensions.specs.Acls.{lent_acl, lent_list_rights, lent_my_rights}
use Rattle.imap_extensions.specs.AclTexts.{canonical_acl, canonical_list_rights, canonical_my_rights}
use Rattle.imap_data.specs.AnnotationTexts.{canonical_metadata, canonical_entries}
use Rattle.imap_data.specs.Codes.{lent_code}
use Rattle.imap_data.specs.CodeTexts.{canonical_response_code}
use Rattle.imap_data.specs.DatumValues.{lent_datum}
use Rattle.imap_data.specs.MailboxDataTexts.{canonical_datum}
use Rattle.imap_data.proofs.OneText.{flag_list, label_list, capabilities, response_code, datum, quota, quota_root, id, entries_kept, acl, list_rights, my_rights}
use Rattle.imap_data.proofs.laws.one_text.Goals as goal

pub returns-clause-flag_list : goal.returns-clause-flag_list
returns-clause-flag_list c = one_text (map lent_text) canonical_flag_list flag_list

pub returns-clause-gmail_label_list : goal.returns-clause-gmail_label_list
returns-clause-gmail_label_list c = one_text (map lent_text) canonical_label_list label_list

pub returns-clause-capabilities : goal.returns-clause-capabilities
returns-clause-capabilities c = one_text (map lent_capability) canonical_capabilities capabilities

pub returns-clause-mailbox : goal.returns-clause-mailbox
returns-clause-mailbox c = one_text lent_text canonical_mailbox (λ t. refl)

pub returns-clause-response_code : goal.returns-clause-response_code
returns-clause-response_code c = one_text lent_code canonical_response_code response_code

pub returns-clause-mailbox_datum : goal.returns-clause-mailbox_datum
returns-clause-mailbox_datum c = one_text lent_datum canonical_datum datum

pub returns-clause-quota : goal.returns-clause-quota
returns-clause-quota c = one_text lent_quota canonical_quota quota

pub returns-clause-quota_root : goal.returns-clause-quota_root
returns-clause-quota_root c = one_text lent_quota_root canonical_quota_root quota_root

pub returns-clause-id : goal.returns-clause-id
returns-clause-id c = one_text (option_map lent_id) canonical_id id

pub returns-clause-metadata_mailbox : goal.returns-clause-metadata_mailbox
returns-clause-metadata_mailbox c = one_text lent_text canonical_metadata (λ t. refl)

pub returns-clause-entries : goal.returns-clause-entries
returns-clause-entries c = one_text (map lent_text) canonical_entries entries_kept

pub returns-clause-acl : goal.returns-clause-acl
returns-clause-acl c = one_text lent_acl canonical_acl acl

pub returns-clause-list_rights : goal.returns-clause-list_rights
returns-clause-list_rights c = one_text lent_list_rights canonical_list_rights list_rights

pub returns-clause-my_rights : goal.returns-clause-my_rights
returns-clause-my_rights c = one_text lent_my_rights canonical_my_rights my_rights
