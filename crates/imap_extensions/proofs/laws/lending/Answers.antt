use Rattle.std.proofs.Common.{true, false}
use Rattle.imap_extensions.proofs.Marks.{quota, quota_root, id_map, acl}
use Rattle.imap_extensions.proofs.laws.lending.Goals as goal

pub returns-clause-quota : goal.returns-clause-quota
returns-clause-quota c = quota false true

pub returns-clause-quota_root : goal.returns-clause-quota_root
returns-clause-quota_root c = quota_root false true

pub returns-clause-id_map : goal.returns-clause-id_map
returns-clause-id_map c = id_map false true

pub returns-clause-acl : goal.returns-clause-acl
returns-clause-acl c = acl false true
