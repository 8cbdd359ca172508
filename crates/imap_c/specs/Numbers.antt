-- The numbers that C is answered: how a call went, and of a response its kind, its status and the number that it tells.
use Rattle.std.specs.Prelude.{ℕ}
use Rattle.imap_shared.specs.declared.types.statuses.Status.{Status}
use Rattle.imap_shared.specs.declared.types.statuses.Status.TheVariants.{Ok, No, Bad, PreAuth, Bye}
use Rattle.imap_data.specs.DatumValues.{DatumValue, Exists, Recent}
use Rattle.imap_proto.specs.Responses.{ResponseValue}
use Rattle.imap_proto.specs.Responses as said

-- ---- how a call went

abbrev pub found : ℕ
found = 0

abbrev pub waits : ℕ
waits = 1

abbrev pub denied : ℕ
denied = 2

abbrev pub out_of_memory : ℕ
out_of_memory = 3

abbrev pub strange_cursor : ℕ
strange_cursor = 4

-- ---- of a response

abbrev pub kind_number : ResponseValue → ℕ
kind_number (said.Capabilities capabilities) = 1
kind_number (said.Continue o) = 2
kind_number (said.Done tag status o) = 3
kind_number (said.Data status o) = 4
kind_number (said.Expunge n) = 5
kind_number (said.Vanished earlier uids) = 6
kind_number (said.Fetch n attributes) = 7
kind_number (said.MailboxData datum) = 8
kind_number (said.Quota quota) = 9
kind_number (said.QuotaRoot root) = 10
kind_number (said.Id map) = 11
kind_number (said.Acl acl) = 12
kind_number (said.ListRights rights) = 13
kind_number (said.MyRights rights) = 14

abbrev pub status_number : Status → ℕ
status_number Ok = 1
status_number No = 2
status_number Bad = 3
status_number PreAuth = 4
status_number Bye = 5

-- the status of a status line; 0 of any other response
abbrev pub status_of : ResponseValue → ℕ
status_of (said.Done tag status o) = status_number status
status_of (said.Data status o) = status_number status
status_of other = 0

-- the number of messages that EXISTS or RECENT tells
abbrev pub count_of : DatumValue → ℕ
count_of (Exists n) = n
count_of (Recent n) = n
count_of other = 0

-- the number of a message, of FETCH and EXPUNGE, or of messages; 0 of any other response
abbrev pub number_of : ResponseValue → ℕ
number_of (said.Fetch n attributes) = n
number_of (said.Expunge n) = n
number_of (said.MailboxData datum) = count_of datum
number_of other = 0
