use Rattle.imap_extensions.proofs.Ids.{tables_tell}
use Rattle.imap_extensions.proofs.Quotas.{quotas_tell, roots_tell}
use Rattle.imap_extensions.proofs.Acls.{entry_tells, acl_tells, list_rights_tell, my_rights_tell}
use Rattle.imap_extensions.proofs.laws.equality.Goals as goal

pub returns-clause-quota : goal.returns-clause-quota
returns-clause-quota c = quotas_tell

pub returns-clause-quota_root : goal.returns-clause-quota_root
returns-clause-quota_root c = roots_tell

pub returns-clause-id_map : goal.returns-clause-id_map
returns-clause-id_map c = tables_tell

pub returns-clause-acl_entry : goal.returns-clause-acl_entry
returns-clause-acl_entry c = entry_tells

pub returns-clause-acl : goal.returns-clause-acl
returns-clause-acl c = acl_tells

pub returns-clause-list_rights : goal.returns-clause-list_rights
returns-clause-list_rights c = list_rights_tell

pub returns-clause-my_rights : goal.returns-clause-my_rights
returns-clause-my_rights c = my_rights_tell
