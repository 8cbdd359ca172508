use Rattle.std.proofs.Common.{true, false}
use Rattle.imap_data.proofs.Marks.{code, name_attribute, list_data, datum}
use Rattle.imap_data.proofs.laws.owning.Goals as goal

pub returns-clause-response_code : goal.returns-clause-response_code
returns-clause-response_code c = code true false

pub returns-clause-name_attribute : goal.returns-clause-name_attribute
returns-clause-name_attribute c = name_attribute true false

pub returns-clause-list_data : goal.returns-clause-list_data
returns-clause-list_data c = list_data true false

pub returns-clause-mailbox_datum : goal.returns-clause-mailbox_datum
returns-clause-mailbox_datum c = datum true false
