use Rattle.imap_data.proofs.Annotations.{metadata_tell}
use Rattle.imap_data.proofs.MailboxData.{data_tell}
use Rattle.imap_data.proofs.Names.{list_tells}
use Rattle.imap_data.proofs.laws.equality.Goals as goal

pub returns-clause-metadata : goal.returns-clause-metadata
returns-clause-metadata c = metadata_tell

pub returns-clause-list_data : goal.returns-clause-list_data
returns-clause-list_data c = list_tells

pub returns-clause-mailbox_datum : goal.returns-clause-mailbox_datum
returns-clause-mailbox_datum c = data_tell
