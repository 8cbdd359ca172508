-- The same responses with all texts owned, and of which that takes no memory.
use Rattle.std.specs.Prelude.{IfSome}
use Rattle.imap_grammar.specs.Text.{owned_text, IsOwned}
use Rattle.imap_data.specs.Owned.{HoldsNoTexts, IsMovedWhole as DatumIsMovedWhole}
use Rattle.imap_extensions.specs.Ids.{IsNil}
use Rattle.imap_proto.specs.Responses.{OutcomeValue, ResponseValue, changed_outcome, changed_response}
use Rattle.imap_proto.specs.Responses as said

abbrev pub owned_outcome : OutcomeValue → OutcomeValue
owned_outcome = changed_outcome owned_text

abbrev pub owned_response : ResponseValue → ResponseValue
owned_response = changed_response owned_text

-- its code has no list of texts or of capabilities, and its information is owned, where it has them
abbrev pub OutcomeIsMovedWhole : OutcomeValue → Type 0
OutcomeIsMovedWhole o = IfSome o.code HoldsNoTexts × IfSome o.information IsOwned

-- EXPUNGE, VANISHED and `ID NIL`; and such an outcome, such data of a mailbox, and rights whose texts are owned
abbrev pub IsMovedWhole : ResponseValue → Type 0
IsMovedWhole (said.Continue o) = OutcomeIsMovedWhole o
IsMovedWhole (said.Done tag status o) = OutcomeIsMovedWhole o
IsMovedWhole (said.Data status o) = OutcomeIsMovedWhole o
IsMovedWhole (said.Expunge n) = Unit {0}
IsMovedWhole (said.Vanished earlier uids) = Unit {0}
IsMovedWhole (said.MailboxData datum) = DatumIsMovedWhole datum
IsMovedWhole (said.Id fields) = IsNil fields
IsMovedWhole (said.ListRights rights) = IsOwned rights.mailbox × IsOwned rights.identifier
IsMovedWhole (said.MyRights rights) = IsOwned rights.mailbox
IsMovedWhole other = ⊥
