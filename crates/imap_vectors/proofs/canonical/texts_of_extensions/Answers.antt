use Rattle.std.proofs.Common.{refl}
use Rattle.std.specs.Fmt.{digits}
use lib.Utf8.{encode}
use Rattle.imap_vectors.proofs.canonical.texts_of_extensions.Goals as goal

pub returns-clause-capable : goal.returns-clause-capable
unfolding digits
returns-clause-capable c = refl

pub returns-clause-none_enabled : goal.returns-clause-none_enabled
unfolding digits
returns-clause-none_enabled c = refl

pub returns-clause-gone_earlier : goal.returns-clause-gone_earlier
unfolding digits
returns-clause-gone_earlier c = refl

pub returns-clause-a_quota_root : goal.returns-clause-a_quota_root
unfolding digits
returns-clause-a_quota_root c = refl

pub returns-clause-a_list_of_rights : goal.returns-clause-a_list_of_rights
unfolding digits encode
returns-clause-a_list_of_rights c = refl

pub returns-clause-possible_rights : goal.returns-clause-possible_rights
unfolding digits encode
returns-clause-possible_rights c = refl

pub returns-clause-no_further_rights : goal.returns-clause-no_further_rights
unfolding digits encode
returns-clause-no_further_rights c = refl

pub returns-clause-own_rights : goal.returns-clause-own_rights
unfolding digits encode
returns-clause-own_rights c = refl
