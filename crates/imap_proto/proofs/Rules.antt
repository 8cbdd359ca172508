-- Sets of rules: where one of these is unfolded, each of its rules is.
use Rattle.std.specs.Prelude.{⊤}
use Rattle.imap_shared.specs.Statuses.{status}
use Rattle.imap_shared.specs.Capabilities.{capability_data, enabled_data}
use Rattle.imap_extensions.specs.Vanishings.{vanished}
use Rattle.imap_extensions.specs.Quotas.{quota, quota_root}
use Rattle.imap_extensions.specs.Ids.{id}
use Rattle.imap_extensions.specs.Acls.{acl, list_rights, my_rights}
use Rattle.imap_data.specs.Annotations.{metadata_mailbox, metadata_solicited, metadata_unsolicited}
use Rattle.imap_data.proofs.Rules.{datum_rules as mailbox_rules}
use Rattle.imap_proto.specs.Lines.{status_data, expunge, fetch, state_datum, vanished_data, extension_datum, datum, ended_datum}

-- data of mailboxes and of messages
unfoldable pub message_rules : ⊤
unfolding mailbox_rules expunge fetch
message_rules = tt

unfoldable pub state_rules : ⊤
unfolding state_datum status_data status message_rules capability_data enabled_data metadata_solicited metadata_unsolicited metadata_mailbox
state_rules = tt

-- the lines of extensions
unfoldable pub extension_rules : ⊤
unfolding extension_datum vanished_data vanished quota quota_root id acl list_rights my_rights
extension_rules = tt

-- the choice behind `* `, and each datum as far as its first byte
unfoldable pub datum_rules : ⊤
unfolding ended_datum datum state_rules extension_rules
datum_rules = tt
