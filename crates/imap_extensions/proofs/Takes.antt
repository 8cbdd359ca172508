-- That a rule takes at least a byte wherever it yields: of the items of lists.
use Rattle.std.proofs.Common.{◌≡◌, true, refl}
use Rattle.imap_grammar.proofs.Consumption.{consumes}
use Rattle.imap_bytes.proofs.Takes.{astring_utf8_takes}
use Rattle.imap_extensions.specs.Quotas.{quota_resource_name, quota_resource, quota_root_name}
use Rattle.imap_extensions.specs.Acls.{acl_entry}

pub quota_resource_name_takes : consumes quota_resource_name ≡ true
unfolding quota_resource_name
quota_resource_name_takes = astring_utf8_takes

pub quota_resource_takes : consumes quota_resource ≡ true
unfolding quota_resource
quota_resource_takes = rw quota_resource_name_takes refl

pub quota_root_name_takes : consumes quota_root_name ≡ true
unfolding quota_root_name
quota_root_name_takes = refl

pub acl_entry_takes : consumes acl_entry ≡ true
unfolding acl_entry
acl_entry_takes = rw astring_utf8_takes refl
