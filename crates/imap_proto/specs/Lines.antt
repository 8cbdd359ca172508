-- Lines of a server (RFC 3501, section 9: response, continue-req, response-data, response-tagged).
use Rattle.std.specs.Prelude.{ℕ, Bool, List, ◌==◌, ◌&&◌, not}
use Rattle.imap_grammar.specs.Ascii.{space, plus}
use Rattle.imap_grammar.specs.Classes.{is_astring_char}
use Rattle.imap_grammar.specs.Text.{Bytes}
use Rattle.imap_grammar.specs.Rule.{Rule, run0, run1, gives, nothing, ◌⨾◌, ◌▹◌, ◌◃◌, ◌or◌}
use Rattle.imap_grammar.specs.Ranges.{Range}
use Rattle.imap_grammar.specs.Tags.{tag, word, sp, maybe_space, crlf}
use Rattle.imap_bytes.specs.Numbers.{number}
use Rattle.imap_bytes.specs.Strings.{in_utf8}
use Rattle.imap_shared.specs.declared.types.statuses.Status.{Status}
use Rattle.imap_shared.specs.Statuses.{status}
use Rattle.imap_shared.specs.Capabilities.{capability_data, enabled_data}
use Rattle.imap_data.specs.DatumValues.{Exists, Recent}
use Rattle.imap_data.specs.MailboxData.{mailbox_datum, list_or_lsub, exists, recent}
use Rattle.imap_data.specs.Annotations.{metadata_solicited, metadata_unsolicited}
use Rattle.imap_extensions.specs.Vanishings.{vanished}
use Rattle.imap_extensions.specs.Quotas.{quota, quota_root}
use Rattle.imap_extensions.specs.Ids.{id}
use Rattle.imap_extensions.specs.Acls.{acl, list_rights, my_rights}
use Rattle.imap_body.specs.AttributeValues.{AttributeValue}
use Rattle.imap_body.specs.Attributes.{attribute_list}
use Rattle.imap_proto.specs.Responses.{OutcomeValue, ResponseValue, Capabilities, Continue, Done, Data, Expunge, Vanished, Fetch, MailboxData, Quota, QuotaRoot, Id, Acl, ListRights, MyRights}
use Rattle.imap_proto.specs.Outcomes.{outcome, spaced_outcome}

-- continue-req = "+" SP (resp-text / base64) CRLF, where the space may be missing, and base64 is read as resp-text
unfoldable pub continuation : Rule ResponseValue
continuation = gives Continue (tag "+" ▹ maybe_space ▹ outcome ◃ crlf)

-- ---- data

abbrev pub data_of : Status × OutcomeValue → ResponseValue
data_of (status, outcome) = Data status outcome

-- resp-cond-state / resp-cond-auth / resp-cond-bye, where the text may be missing with its space
unfoldable pub status_data : Rule ResponseValue
status_data = gives data_of (status ⨾ spaced_outcome)

-- message-data = nz-number SP ("EXPUNGE" / ("FETCH" SP msg-att)): the first; zero is read, too
unfoldable pub expunge : Rule ResponseValue
expunge = gives Expunge (number ◃ word " EXPUNGE")

abbrev pub fetch_of : ℕ × List AttributeValue → ResponseValue
fetch_of (number, attributes) = Fetch number attributes

-- SP "FETCH" SP msg-att
unfoldable pub fetched : Rule (List AttributeValue)
fetched = word " FETCH " ▹ attribute_list

-- message-data: the second; zero is read, too
unfoldable pub fetch : Rule ResponseValue
fetch = gives fetch_of (number ⨾ fetched)

abbrev pub vanished_of : Bool × List Range → ResponseValue
vanished_of (earlier, uids) = Vanished earlier uids

-- expunged-resp (RFC 7162, section 7)
unfoldable pub vanished_data : Rule ResponseValue
vanished_data = gives vanished_of vanished

-- statuses, data of mailboxes and of messages, capabilities, METADATA
unfoldable pub state_datum : Rule ResponseValue
state_datum =
    status_data
    or gives MailboxData mailbox_datum
    or expunge
    or fetch
    or gives Capabilities capability_data
    or gives Capabilities enabled_data
    or gives MailboxData metadata_solicited
    or gives MailboxData metadata_unsolicited

-- the lines of extensions
unfoldable pub extension_datum : Rule ResponseValue
extension_datum =
    vanished_data
    or gives Quota quota
    or gives QuotaRoot quota_root
    or gives Id id
    or gives Acl acl
    or gives ListRights list_rights
    or gives MyRights my_rights

-- what stands behind "* ": resp-cond-state / resp-cond-auth / resp-cond-bye / mailbox-data / message-data /
-- capability-data, and the data of extensions
unfoldable pub datum : Rule ResponseValue
datum = state_datum or extension_datum

abbrev pub is_space : ℕ → Bool
is_space b = b == space

unfoldable pub spaces : Rule Bytes
spaces = run0 is_space

-- a datum, spaces, the end of the line
abbrev pub ended : {V : Type 0} → Rule V → Rule V
ended a = a ◃ spaces ⨾ crlf

unfoldable pub ended_datum : Rule ResponseValue
ended_datum = ended datum

-- response-data = "*" SP datum CRLF, where spaces may stand before the CRLF
unfoldable pub data_line : Rule ResponseValue
data_line = tag "* " ▹ ended_datum

-- ---- no further rules: the data that may start with one byte, in their order, each with the end of its line, as the
-- reader tries them

unfoldable pub status_line : Rule ResponseValue
status_line = ended status_data

-- EXISTS, RECENT, EXPUNGE and FETCH have their number in front
unfoldable pub numbered_line : Rule ResponseValue
numbered_line = ended (gives MailboxData (exists or recent) or expunge or fetch)

-- what stands behind a number n: EXISTS, RECENT or EXPUNGE
unfoldable pub count_line : ℕ → Rule ResponseValue
count_line n =
    ended
    (gives MailboxData
    (gives Exists (nothing n ◃ word " EXISTS") or gives Recent (nothing n ◃ word " RECENT"))
    or gives Expunge (nothing n ◃ word " EXPUNGE"))

-- what stands behind a number n: FETCH and its attributes
unfoldable pub fetched_line : ℕ → Rule ResponseValue
fetched_line n = ended (gives fetch_of (nothing n ⨾ fetched))

unfoldable pub mailbox_line : Rule ResponseValue
mailbox_line = ended (gives MailboxData mailbox_datum)

unfoldable pub list_line : Rule ResponseValue
list_line = ended (gives MailboxData list_or_lsub or gives ListRights list_rights)

unfoldable pub capability_line : Rule ResponseValue
capability_line = ended (gives Capabilities capability_data)

unfoldable pub enabled_line : Rule ResponseValue
enabled_line = ended (gives Capabilities enabled_data)

unfoldable pub annotation_line : Rule ResponseValue
annotation_line =
    ended
    ((gives MailboxData metadata_solicited or gives MailboxData metadata_unsolicited)
    or gives MyRights my_rights)

unfoldable pub vanished_line : Rule ResponseValue
vanished_line = ended vanished_data

unfoldable pub quota_line : Rule ResponseValue
quota_line = ended (gives Quota quota or gives QuotaRoot quota_root)

unfoldable pub id_line : Rule ResponseValue
id_line = ended (gives Id id)

unfoldable pub acl_line : Rule ResponseValue
acl_line = ended (gives Acl acl)

-- `* `, FETCH, and the end of the line
unfoldable pub fetch_line : Rule ResponseValue
fetch_line = tag "* " ▹ ended fetch

-- ---- tagged lines

-- tag-char: an astring-char but `+`
abbrev pub is_tag_char : ℕ → Bool
is_tag_char b = is_astring_char b && not (b == plus)

-- tag = 1*<any ASTRING-CHAR except "+">, in UTF-8
unfoldable pub request_tag : Rule Bytes
request_tag = in_utf8 (run1 is_tag_char)

abbrev pub done_of : Bytes × (Status × OutcomeValue) → ResponseValue
done_of (tag, (status, outcome)) = Done tag status outcome

-- response-tagged = tag SP resp-cond-state CRLF, where PREAUTH and BYE are read, too, and the text may be missing with
-- its space
unfoldable pub tagged : Rule ResponseValue
tagged = gives done_of (request_tag ⨾ sp ▹ status ⨾ spaced_outcome ◃ crlf)

-- one line: continue-req / response-data / response-tagged; a greeting and response-fatal are data lines
unfoldable pub response : Rule ResponseValue
response = continuation or data_line or tagged
