-- Attributes of a message (RFC 3501, section 9: msg-att, msg-att-dynamic, msg-att-static; RFC 7162, section 7:
-- fetch-mod-resp, permsg-modsequence; RFC 8474, section 7: fetch-emailid-resp, fetch-threadid-resp, objectid;
-- RFC 8514, section 4.1: SAVEDATE; X-GM-EXT-1).
use Rattle.std.specs.Prelude.{ℕ, Bool, ◌==◌, ◌&&◌, not, List, Option}
use Rattle.imap_grammar.specs.Ascii.{space, close_parenthesis}
use Rattle.imap_grammar.specs.Classes.{is_astring_char}
use Rattle.imap_grammar.specs.Text.{Bytes, Text, as_text}
use Rattle.imap_grammar.specs.Rule.{Rule, run0, run1, gives, nothing, opt, dropped, ◌⨾◌, ◌▹◌, ◌◃◌, ◌or◌}
use Rattle.imap_grammar.specs.Tags.{tag, word, sp, maybe_space}
use Rattle.imap_grammar.specs.Lists.{nonempty_list_of}
use Rattle.imap_bytes.specs.Numbers.{number, number_64}
use Rattle.imap_bytes.specs.Strings.{nil_or, nstring, atom, in_utf8}
use Rattle.imap_bytes.specs.Texts.{string_utf8, nstring_utf8}
use Rattle.imap_shared.specs.Flags.{flag_list}
use Rattle.imap_shared.specs.Gmail.{gmail_label_list, gmail_msgid, gmail_thrid}
use Rattle.imap_sections.specs.Sections.{section}
use Rattle.imap_sections.specs.SectionValues.{PathValue}
use Rattle.imap_envelopes.specs.Envelopes.{spaced, byte_string, envelope}
use Rattle.imap_bodystructure.specs.Bodies.{body_structure}
use Rattle.imap_body.specs.AttributeValues.{AttributeValue}
use Rattle.imap_body.specs.AttributeValues as said

-- ---- bodies

-- "<" number ">"
unfoldable pub origin : Rule ℕ
origin = tag "<" ▹ number ◃ tag ">"

abbrev pub section_of : Option PathValue × (Option ℕ × Option Text) → AttributeValue
section_of (section, (index, contents)) = said.BodySection section index contents

-- section ["<" number ">"] SP nstring
unfoldable pub section_contents : Rule AttributeValue
section_contents = gives section_of (section ⨾ opt origin ⨾ spaced byte_string)

-- "BODY" section ["<" number ">"] SP nstring
unfoldable pub msg_att_body_section : Rule AttributeValue
msg_att_body_section = word "BODY" ▹ section_contents

-- "BODYSTRUCTURE" SP body
unfoldable pub msg_att_body_structure : Rule AttributeValue
msg_att_body_structure = word "BODYSTRUCTURE " ▹ gives said.BodyStructure body_structure

-- ---- messages as they are

-- "RFC822" SP nstring
unfoldable pub msg_att_rfc822 : Rule AttributeValue
msg_att_rfc822 = word "RFC822 " ▹ gives said.Rfc822 byte_string

-- "RFC822.HEADER" SP nstring, maybe with one more space
unfoldable pub msg_att_rfc822_header : Rule AttributeValue
msg_att_rfc822_header = word "RFC822.HEADER " ▹ maybe_space ▹ gives said.Rfc822Header byte_string

-- "RFC822.SIZE" SP number
unfoldable pub msg_att_rfc822_size : Rule AttributeValue
msg_att_rfc822_size = word "RFC822.SIZE " ▹ gives said.Rfc822Size number

-- "RFC822.TEXT" SP nstring
unfoldable pub msg_att_rfc822_text : Rule AttributeValue
msg_att_rfc822_text = word "RFC822.TEXT " ▹ gives said.Rfc822Text byte_string

-- ---- the other attributes of RFC 3501

-- "ENVELOPE" SP envelope
unfoldable pub msg_att_envelope : Rule AttributeValue
msg_att_envelope = word "ENVELOPE " ▹ gives said.Envelope envelope

-- date-time, which may be any string
unfoldable pub date : Rule Text
date = string_utf8

-- "INTERNALDATE" SP date-time
unfoldable pub msg_att_internal_date : Rule AttributeValue
msg_att_internal_date = word "INTERNALDATE " ▹ gives said.InternalDate date

-- "FLAGS" SP "(" [flag-fetch *(SP flag-fetch)] ")", where `\*` is read too, and a space before the `)`
unfoldable pub msg_att_flags : Rule AttributeValue
msg_att_flags = word "FLAGS " ▹ gives said.Flags flag_list

-- "UID" SP uniqueid
unfoldable pub msg_att_uid : Rule AttributeValue
msg_att_uid = word "UID " ▹ gives said.Uid number

-- ---- attributes of extensions

-- "MODSEQ" SP "(" permsg-modsequence ")"
unfoldable pub msg_att_mod_seq : Rule AttributeValue
msg_att_mod_seq = word "MODSEQ " ▹ gives said.ModSeq (tag "(" ▹ number_64 ◃ tag ")")

-- "X-GM-LABELS" SP "(" [label *(SP label)] ")", where a space may stand before the `)`
unfoldable pub msg_att_gmail_labels : Rule AttributeValue
msg_att_gmail_labels = gives said.GmailLabels gmail_label_list

-- "X-GM-MSGID" SP number of 64 bits
unfoldable pub msg_att_gmail_msgid : Rule AttributeValue
msg_att_gmail_msgid = gives said.GmailMsgId gmail_msgid

-- "X-GM-THRID" SP number of 64 bits
unfoldable pub msg_att_gmail_thrid : Rule AttributeValue
msg_att_gmail_thrid = gives said.GmailThrId gmail_thrid

-- the bytes of an objectid, which may be any astring-chars that are UTF-8
unfoldable pub id_bytes : Rule Bytes
id_bytes = in_utf8 (run1 is_astring_char)

-- objectid
unfoldable pub object_id : Rule Text
object_id = gives as_text id_bytes

-- "(" objectid ")"
unfoldable pub bracketed_id : Rule Text
bracketed_id = tag "(" ▹ object_id ◃ tag ")"

-- "EMAILID" SP "(" objectid ")"
unfoldable pub msg_att_email_id : Rule AttributeValue
msg_att_email_id = word "EMAILID " ▹ gives said.EmailId bracketed_id

-- "THREADID" SP ("(" objectid ")" / nil)
unfoldable pub msg_att_thread_id : Rule AttributeValue
msg_att_thread_id = word "THREADID " ▹ gives said.ThreadId (nil_or bracketed_id)

-- "SAVEDATE" SP (date-time / nil), where the date may be any string
unfoldable pub msg_att_save_date : Rule AttributeValue
msg_att_save_date = word "SAVEDATE " ▹ gives said.SaveDate nstring_utf8

-- ---- any other attribute

-- any byte but `)`
abbrev pub is_within_brackets : ℕ → Bool
is_within_brackets b = not (b == close_parenthesis)

-- any byte but SP and `)`
abbrev pub is_bare : ℕ → Bool
is_bare b = not (b == space) && not (b == close_parenthesis)

-- "(" *<any byte but ")"> ")"
unfoldable pub skipped_brackets : Rule (Unit {0})
skipped_brackets = dropped (tag "(" ▹ run0 is_within_brackets ◃ tag ")")

-- nstring
unfoldable pub skipped_nstring : Rule (Unit {0})
skipped_nstring = dropped nstring

-- 1*<any byte but SP and ")">
unfoldable pub skipped_bare : Rule (Unit {0})
skipped_bare = dropped (run1 is_bare)

-- a value that is skipped: in parentheses up to the first `)`, an nstring, or bytes up to a space or a `)`, line ends
-- among them
unfoldable pub skipped_value : Rule (Unit {0})
skipped_value = skipped_brackets or skipped_nstring or skipped_bare

-- atom SP and a value that is skipped
unfoldable pub msg_att_unknown : Rule AttributeValue
msg_att_unknown = atom ▹ sp ▹ skipped_value ▹ nothing said.Unknown

-- ---- attributes

-- msg-att-dynamic / msg-att-static, those of extensions, any other
unfoldable pub attribute : Rule AttributeValue
attribute =
    msg_att_body_section
    or msg_att_body_structure
    or msg_att_envelope
    or msg_att_internal_date
    or msg_att_flags
    or msg_att_mod_seq
    or msg_att_rfc822
    or msg_att_rfc822_header
    or msg_att_rfc822_size
    or msg_att_rfc822_text
    or msg_att_uid
    or msg_att_gmail_labels
    or msg_att_gmail_msgid
    or msg_att_gmail_thrid
    or msg_att_email_id
    or msg_att_thread_id
    or msg_att_save_date
    or msg_att_unknown

-- msg-att = "(" (msg-att-dynamic / msg-att-static) *(SP (msg-att-dynamic / msg-att-static)) ")", where blanks may
--     stand before the `)`
unfoldable pub attribute_list : Rule (List AttributeValue)
attribute_list = nonempty_list_of attribute

-- ---- no further rules: the attributes that may start with one byte, in their order, as the reader tries them; what
-- begins alike is read once

-- "STRUCTURE" SP body
unfoldable pub structure : Rule AttributeValue
structure = word "STRUCTURE " ▹ gives said.BodyStructure body_structure

-- "BODY" and a section or `STRUCTURE`
unfoldable pub body_attribute : Rule AttributeValue
body_attribute = word "BODY" ▹ (section_contents or structure)

unfoldable pub attribute_of_b : Rule AttributeValue
attribute_of_b = body_attribute or msg_att_unknown

unfoldable pub attribute_of_e : Rule AttributeValue
attribute_of_e = msg_att_envelope or msg_att_email_id or msg_att_unknown

unfoldable pub attribute_of_f : Rule AttributeValue
attribute_of_f = msg_att_flags or msg_att_unknown

unfoldable pub attribute_of_i : Rule AttributeValue
attribute_of_i = msg_att_internal_date or msg_att_unknown

unfoldable pub attribute_of_m : Rule AttributeValue
attribute_of_m = msg_att_mod_seq or msg_att_unknown

-- SP nstring
unfoldable pub whole_message : Rule AttributeValue
whole_message = word " " ▹ gives said.Rfc822 byte_string

unfoldable pub message_header : Rule AttributeValue
message_header = word "HEADER " ▹ maybe_space ▹ gives said.Rfc822Header byte_string

unfoldable pub message_size : Rule AttributeValue
message_size = word "SIZE " ▹ gives said.Rfc822Size number

unfoldable pub message_text : Rule AttributeValue
message_text = word "TEXT " ▹ gives said.Rfc822Text byte_string

-- "." ("HEADER" / "SIZE" / "TEXT")
unfoldable pub message_part : Rule AttributeValue
message_part = word "." ▹ (message_header or message_size or message_text)

-- "RFC822" and the message, or "." and what of it
unfoldable pub message_attribute : Rule AttributeValue
message_attribute = word "RFC822" ▹ (whole_message or message_part)

unfoldable pub attribute_of_r : Rule AttributeValue
attribute_of_r = message_attribute or msg_att_unknown

unfoldable pub attribute_of_s : Rule AttributeValue
attribute_of_s = msg_att_save_date or msg_att_unknown

unfoldable pub attribute_of_t : Rule AttributeValue
attribute_of_t = msg_att_thread_id or msg_att_unknown

unfoldable pub attribute_of_u : Rule AttributeValue
attribute_of_u = msg_att_uid or msg_att_unknown

unfoldable pub attribute_of_x : Rule AttributeValue
attribute_of_x =
    msg_att_gmail_labels or msg_att_gmail_msgid or msg_att_gmail_thrid or msg_att_unknown
