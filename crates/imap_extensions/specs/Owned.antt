-- The same values with all texts owned, and which resource names are so already.
use Rattle.imap_grammar.specs.Text.{Bytes, Text, owned_text, IsOwned}
use Rattle.imap_extensions.specs.Quotas.{QuotaResourceNameValue, Atom, QuotaResourceValue, QuotaValue, QuotaRootValue, changed_quota_resource_name, changed_quota_resource, changed_quota, changed_quota_root}
use Rattle.imap_extensions.specs.Ids.{IdValue, changed_entry, changed_id}
use Rattle.imap_extensions.specs.Acls.{AclEntryValue, AclValue, ListRightsValue, MyRightsValue, changed_acl_entry, changed_acl, changed_list_rights, changed_my_rights}

-- ---- quotas

abbrev pub owned_quota_resource_name : QuotaResourceNameValue → QuotaResourceNameValue
owned_quota_resource_name = changed_quota_resource_name owned_text

-- it holds no borrowed text
abbrev pub IsOwnedName : QuotaResourceNameValue → Type 0
IsOwnedName (Atom t) = IsOwned t
IsOwnedName other = Unit {0}

abbrev pub owned_quota_resource : QuotaResourceValue → QuotaResourceValue
owned_quota_resource = changed_quota_resource owned_text

abbrev pub owned_quota : QuotaValue → QuotaValue
owned_quota = changed_quota owned_text

abbrev pub owned_quota_root : QuotaRootValue → QuotaRootValue
owned_quota_root = changed_quota_root owned_text

-- ---- ID

abbrev pub owned_entry : Bytes × Text → Bytes × Text
owned_entry = changed_entry owned_text

abbrev pub owned_id : IdValue → IdValue
owned_id = changed_id owned_text

-- ---- access control lists

abbrev pub owned_acl_entry : AclEntryValue → AclEntryValue
owned_acl_entry = changed_acl_entry owned_text

abbrev pub owned_acl : AclValue → AclValue
owned_acl = changed_acl owned_text

abbrev pub owned_list_rights : ListRightsValue → ListRightsValue
owned_list_rights = changed_list_rights owned_text

abbrev pub owned_my_rights : MyRightsValue → MyRightsValue
owned_my_rights = changed_my_rights owned_text
