-- The words of `imap_cat`: a name and a number.
use Rattle.std.specs.Prelude.{ℕ, List, ◌∷◌, ◌++◌, length, codes}
use Rattle.std.specs.Fmt.{decimal}
use Rattle.imap_grammar.specs.Ascii.{space}
use Rattle.imap_grammar.specs.Text.{Bytes}
use Rattle.imap_proto.specs.Responses.{ResponseValue}
use Rattle.imap_proto.specs.Responses as said
use Rattle.imap_proto.specs.Skipping.{Item, Taken, Skipped}
use Rattle.imap_report.specs.declared.outcome.Finish.{Finish}
use Rattle.imap_report.specs.declared.outcome.Finish.TheVariants.{End, Waiting, Denied}
use Rattle.imap_report.specs.declared.wording.OnDenied.{OnDenied}
use Rattle.imap_report.specs.Report.{Words}

-- the name of a response's kind, in lower case
abbrev pub name_of : ResponseValue → Bytes
name_of (said.Capabilities capabilities) = codes "capabilities"
name_of (said.Continue o) = codes "continue"
name_of (said.Done tag status o) = codes "done"
name_of (said.Data status o) = codes "data"
name_of (said.Expunge n) = codes "expunge"
name_of (said.Vanished earlier uids) = codes "vanished"
name_of (said.Fetch n attributes) = codes "fetch"
name_of (said.MailboxData datum) = codes "mailboxdata"
name_of (said.Quota quota) = codes "quota"
name_of (said.QuotaRoot root) = codes "quotaroot"
name_of (said.Id map) = codes "id"
name_of (said.Acl acl) = codes "acl"
name_of (said.ListRights rights) = codes "listrights"
name_of (said.MyRights rights) = codes "myrights"

-- a name, SP and a number
abbrev pub counted : Bytes → ℕ → Bytes
counted name n = name ++ (space ∷ decimal n)

abbrev pub plain_item : Item → ℕ → Bytes
plain_item (Taken r) n = counted (name_of r) n
plain_item (Skipped bytes) n = counted (codes "skipped") n

abbrev pub plain_end : Finish → ℕ → Bytes
plain_end End n = codes "end"
plain_end Waiting n = counted (codes "waiting") n
plain_end Denied n = counted (codes "denied") n

abbrev pub plain : OnDenied → Words
plain d = record { on_denied = d; of_item = plain_item; of_end = plain_end }
