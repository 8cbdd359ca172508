use Rattle.std.proofs.Common.{true, false}
use Rattle.imap_extensions.proofs.Marks.{quota, quota_root, id_map, acl}
use Rattle.imap_extensions.proofs.laws.owning.Goals as goal

pub returns-clause-quota : goal.returns-clause-quota
returns-clause-quota c = quota true false

pub returns-clause-quota_root : goal.returns-clause-quota_root
returns-clause-quota_root c = quota_root true false

pub returns-clause-id_map : goal.returns-clause-id_map
returns-clause-id_map c = id_map true false

pub returns-clause-acl : goal.returns-clause-acl
returns-clause-acl c = acl true false
