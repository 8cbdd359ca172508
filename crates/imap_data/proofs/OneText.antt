-- Statuses' codes, data of mailboxes and the lines of extensions have one canonical text, whichever of their texts are
-- borrowed.
use Rattle.std.proofs.Common.{◌≡◌, List, [], ◌∷◌, None, Some, map, refl, ap, ap₂, ◌∙◌, cond}
use Rattle.std.specs.Prelude.{◌||◌}
use Rattle.std.specs.List.{list_any}
use Rattle.std.specs.Option.{option_map}
use Rattle.std.specs.FinMap.{entries}
use Rattle.imap_grammar.specs.Text.{lent_text}
use Rattle.imap_grammar.specs.Pieces.{◌then◌, words, space, number_text, literal_text, plain}
use Rattle.imap_grammar.proofs.OneText.{Keeps, each_keeps, separated_keeps, list_keeps}
use Rattle.imap_shared.specs.Capabilities.{Imap4rev1, Auth, Atom, lent_capability, is_revision}
use Rattle.imap_shared.specs.CapabilityTexts.{canonical_capability, canonical_capabilities, canonical_each}
use Rattle.imap_shared.specs.FlagTexts.{canonical_flag_list}
use Rattle.imap_shared.specs.GmailTexts.{canonical_label, canonical_label_list}
use Rattle.imap_shared.specs.MailboxTexts.{canonical_mailbox}
use Rattle.imap_extensions.specs.Quotas.{Storage, Message, Atom as AtomResource, lent_quota_resource_name, lent_quota_resource, lent_quota, lent_quota_root}
use Rattle.imap_extensions.specs.QuotaTexts.{canonical_resource_name, canonical_resource, canonical_quota, canonical_quota_root}
use Rattle.imap_extensions.specs.Ids.{lent_entry, lent_id}
use Rattle.imap_extensions.specs.IdTexts.{canonical_field, canonical_fields, canonical_params, canonical_id}
use Rattle.imap_extensions.specs.Acls.{lent_acl_entry, lent_acl, lent_list_rights, lent_my_rights}
use Rattle.imap_extensions.specs.AclTexts.{canonical_acl_entry, canonical_acl, canonical_list_rights, canonical_my_rights}
use Rattle.imap_data.specs.AnnotationTexts.{canonical_metadata, canonical_entries}
use Rattle.imap_extensions.proofs.Ids.{entries-lent_id}
use Rattle.imap_data.specs.Codes.{BadCharset, Capabilities, PermanentFlags, lent_code}
use Rattle.imap_data.specs.CodeTexts.{canonical_charsets, canonical_code, canonical_response_code}
use Rattle.imap_data.specs.Names.{Extension, lent_name_attribute, lent_list}
use Rattle.imap_data.specs.NameTexts.{canonical_name_attribute, canonical_delimiter, canonical_list}
use Rattle.imap_data.specs.DatumValues.{Flags, Listed, MetadataSolicited, MetadataUnsolicited, GmailLabels, lent_datum}
use Rattle.imap_data.specs.MailboxDataTexts.{canonical_datum}

-- ---- flags, labels, capabilities

pub flag_list : Keeps (map lent_text) canonical_flag_list
flag_list = list_keeps lent_text plain (λ t. refl)

pub label_list : Keeps (map lent_text) canonical_label_list
label_list labels = ap (λ x. words "X-GM-LABELS " then x) (list_keeps lent_text canonical_label (λ t. refl) labels)

capability : Keeps lent_capability canonical_capability
capability Imap4rev1 = refl
capability (Auth t) = refl
capability (Atom t) = refl

each_capability : Keeps (map lent_capability) canonical_each
each_capability = each_keeps lent_capability (λ c. space then canonical_capability c) (λ c. ap (λ x. space then x) (capability c))

is_revision_kept : (c : _) → is_revision (lent_capability c) ≡ is_revision c
is_revision_kept Imap4rev1 = refl
is_revision_kept (Auth t) = refl
is_revision_kept (Atom t) = refl

revisions_kept : (cs : List _) → list_any is_revision (map lent_capability cs) ≡ list_any is_revision cs
revisions_kept [] = refl
revisions_kept (c ∷ cs) = ap₂ (λ x y. x || y) (is_revision_kept c) (revisions_kept cs)

pub capabilities : Keeps (map lent_capability) canonical_capabilities
capabilities cs = ap₂ (λ b x. cond b (words "CAPABILITY") (words "ENABLED") then x) (revisions_kept cs) (each_capability cs)

-- ---- response codes

charsets : Keeps (option_map (map lent_text)) canonical_charsets
charsets None = refl
charsets (Some ts) = ap (λ x. space then x) (list_keeps lent_text literal_text (λ t. refl) ts)

code : Keeps lent_code canonical_code
code (BadCharset c) = ap (λ x. words "BADCHARSET" then x) (charsets c)
code (Capabilities cs) = ap (λ x. words "CAPABILITY" then x) (each_capability cs)
code (PermanentFlags fs) = ap (λ x. words "PERMANENTFLAGS " then x) (flag_list fs)
code other = refl

pub response_code : Keeps lent_code canonical_response_code
response_code c = ap (λ x. words "[" then x then words "]") (code c)

-- ---- data of a mailbox

name_attribute : Keeps lent_name_attribute canonical_name_attribute
name_attribute (Extension t) = refl
name_attribute other = refl

delimiter : Keeps (option_map lent_text) canonical_delimiter
delimiter None = refl
delimiter (Some t) = refl

list : Keeps lent_list canonical_list
list l = ap₂ (λ x y. x then space then y then space then canonical_mailbox l.name) (list_keeps lent_name_attribute canonical_name_attribute name_attribute l.name_attributes) (delimiter l.delimiter)

pub entries_kept : Keeps (map lent_text) canonical_entries
entries_kept = separated_keeps space lent_text literal_text (λ t. refl)

pub datum : Keeps lent_datum canonical_datum
datum (Flags fs) = ap (λ x. words "FLAGS " then x) (flag_list fs)
datum (Listed l) = ap (λ x. words "LIST " then x) (list l)
datum (GmailLabels ls) = label_list ls
datum (MetadataSolicited mailbox values) = refl
datum (MetadataUnsolicited mailbox es) = ap (λ x. canonical_metadata mailbox then x) (entries_kept es)
datum other = refl

-- ---- extensions

resource_name : Keeps lent_quota_resource_name canonical_resource_name
resource_name Storage = refl
resource_name Message = refl
resource_name (AtomResource t) = refl

resource : Keeps lent_quota_resource canonical_resource
resource r = ap (λ x. x then space then number_text r.usage then space then number_text r.limit) (resource_name r.name)

pub quota : Keeps lent_quota canonical_quota
quota q = ap (λ x. words "QUOTA" then space then literal_text q.root_name then space then x) (list_keeps lent_quota_resource canonical_resource resource q.resources)

pub quota_root : Keeps lent_quota_root canonical_quota_root
quota_root q = ap (λ x. words "QUOTAROOT" then space then literal_text q.mailbox_name then x) (each_keeps lent_text (λ t. space then literal_text t) (λ t. refl) q.quota_root_names)

fields : Keeps (map lent_entry) canonical_fields
fields [] = refl
fields (e ∷ es) = list_keeps lent_entry canonical_field (λ e. refl) (e ∷ es)

params : Keeps (option_map lent_id) canonical_params
params None = refl
params (Some m) = ap canonical_fields (entries-lent_id m) ∙ fields (entries m)

pub id : Keeps (option_map lent_id) canonical_id
id ps = ap (λ x. words "ID" then space then x) (params ps)

pub acl : Keeps lent_acl canonical_acl
acl a = ap (λ x. words "ACL" then space then canonical_mailbox a.mailbox then x) (each_keeps lent_acl_entry (λ e. space then canonical_acl_entry e) (λ e. refl) a.acls)

pub list_rights : Keeps lent_list_rights canonical_list_rights
list_rights r = refl

pub my_rights : Keeps lent_my_rights canonical_my_rights
my_rights r = refl
