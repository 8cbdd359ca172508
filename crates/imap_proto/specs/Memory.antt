-- For which responses no memory is taken, and behind what memory may be wanted at all.
use Rattle.std.specs.Prelude.{◌≡◌, ◌⊎◌, ◌++◌, codes, Option, None, Some}
use Rattle.imap_grammar.specs.Memory.{BeginsWord, StartsWith, Behind}
use Rattle.imap_grammar.specs.Rule.{opt, ◌⨾◌, ◌▹◌}
use Rattle.imap_grammar.specs.Tags.{tag, word, sp, maybe_space}
use Rattle.imap_grammar.specs.Text.{Bytes, Text, IsOwned}
use Rattle.imap_bytes.specs.Numbers.{number}
use Rattle.imap_bytes.specs.Texts.{text, YieldsOwned}
use Rattle.imap_shared.specs.Copies.{IsLent}
use Rattle.imap_shared.specs.Statuses.{status}
use Rattle.imap_extensions.specs.Acls.{AclMayWant}
use Rattle.imap_extensions.specs.Ids.{IsNil}
use Rattle.imap_data.specs.Codes.{CodeValue, HoldsNoList, BeginsListCode, response_code}
use Rattle.imap_data.specs.DatumValues.{IsNumber}
use Rattle.imap_data.specs.MailboxData.{MailboxMayWant}
use Rattle.imap_proto.specs.Lines.{request_tag, tagged}
use Rattle.imap_proto.specs.Responses.{OutcomeValue, ResponseValue}
use Rattle.imap_proto.specs.Responses as said

-- A code without a list, and a borrowed text behind it. A text by itself also doesn't begin as a code that may hold a
-- list: what stands so is tried as a code before, and its list may want memory.
abbrev pub ReadsWithoutMemory : Option CodeValue → Option Text → Type 0
ReadsWithoutMemory None None = Unit {0}
ReadsWithoutMemory None (Some t) = IsLent t × (¬ (BeginsListCode t.bytes))
ReadsWithoutMemory (Some c) None = HoldsNoList c
ReadsWithoutMemory (Some c) (Some t) = HoldsNoList c × IsLent t

abbrev pub OutcomeTakesNone : OutcomeValue → Type 0
OutcomeTakesNone o = ReadsWithoutMemory o.code o.information

-- One number, `ID NIL`, or an untagged status or a continuation with such an outcome: no list, no map, no copied tag
-- and no owned text.
abbrev pub TakesNone : ResponseValue → Type 0
TakesNone (said.Continue o) = OutcomeTakesNone o
TakesNone (said.Data _ o) = OutcomeTakesNone o
TakesNone (said.Expunge n) = Unit {0}
TakesNone (said.MailboxData datum) = IsNumber datum
TakesNone (said.Id fields) = IsNil fields
TakesNone other = ⊥

-- ---- behind what memory may be wanted

-- a code that may hold a list begins, or a text that is not UTF-8 stands there, behind a code or without one
abbrev pub OutcomeMayWant : Bytes → Type 0
OutcomeMayWant m = BeginsListCode m ⊎ Behind (opt response_code) (YieldsOwned IsOwned text) m

-- such an outcome, behind `+` and a space that may be missing
abbrev pub ContinuationMayWant : Bytes → Type 0
ContinuationMayWant m = Behind (tag "+" ▹ maybe_space) OutcomeMayWant m

-- such an outcome, behind a status and a space
abbrev pub StatusMayWant : Bytes → Type 0
StatusMayWant m = Behind (status ⨾ sp) OutcomeMayWant m

-- such an outcome, behind a tag, a space, a status and a space; or the whole line, whose tag is copied
abbrev pub TaggedMayWant : Bytes → Type 0
TaggedMayWant m =
    Behind (request_tag ⨾ sp ▹ status ⨾ sp) OutcomeMayWant m
    ⊎ StartsWith tagged m

-- ---- and of data, what stands behind `* `

-- what is said of a mailbox, METADATA among it
abbrev pub MailboxDatumMayWant : Bytes → Type 0
MailboxDatumMayWant m = MailboxMayWant m ⊎ BeginsWord "METADATA " m

-- capabilities, VANISHED, QUOTA and QUOTAROOT, ID, and the lines of rights
abbrev pub OtherDatumMayWant : Bytes → Type 0
OtherDatumMayWant m =
    BeginsWord "CAPABILITY" m
    ⊎ BeginsWord "ENABLED" m
    ⊎ BeginsWord "VANISHED" m
    ⊎ BeginsWord "QUOTA" m
    ⊎ BeginsWord "ID" m
    ⊎ AclMayWant m
    ⊎ BeginsWord "LISTRIGHTS" m
    ⊎ BeginsWord "MYRIGHTS" m

-- a status with such an outcome, or a number and ` FETCH `, or such data. EXISTS, RECENT and EXPUNGE take no memory, nor
-- does what begins with no datum.
abbrev pub DatumMayWant : Bytes → Type 0
DatumMayWant m =
    StatusMayWant m
    ⊎ StartsWith (number ▹ word " FETCH ") m
    ⊎ MailboxDatumMayWant m
    ⊎ OtherDatumMayWant m

-- such a continuation, or `* ` and such a datum, or such a tagged line
abbrev pub MayWantMemory : Bytes → Type 0
MayWantMemory m =
    ContinuationMayWant m
    ⊎ ((rest : Bytes) × (m ≡ codes "* " ++ rest) × DatumMayWant rest)
    ⊎ TaggedMayWant m
