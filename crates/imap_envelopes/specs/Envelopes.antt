-- Envelopes (RFC 3501, section 9: envelope, address).
use Rattle.std.specs.Prelude.{List, Option}
use Rattle.std.specs.Option.{option_map}
use Rattle.imap_grammar.specs.Text.{Text, as_text}
use Rattle.imap_grammar.specs.Rule.{Rule, gives, opt, some1, ◌⨾◌, ◌▹◌, ◌◃◌}
use Rattle.imap_grammar.specs.Tags.{tag, sp}
use Rattle.imap_bytes.specs.Strings.{nstring, nil_or}
use Rattle.imap_body_types.specs.EnvelopeValues.{AddressValue, EnvelopeValue, addresses_seen}
use Rattle.imap_envelopes.specs.declared.at.envelopes.LastFields.{LastFields}

-- SP A
abbrev pub spaced : {A : Type 0} → Rule A → Rule A
spaced a = sp ▹ a

-- nstring, its bytes as they stand in the message
unfoldable pub byte_string : Rule (Option Text)
byte_string = gives (option_map as_text) nstring

abbrev pub address_of : Option Text × (Option Text × (Option Text × Option Text)) → AddressValue
address_of (name, (adl, (mailbox, host))) =
    record {
      name = name;
      adl = adl;
      mailbox = mailbox;
      host = host;
    }

-- address = "(" addr-name SP addr-adl SP addr-mailbox SP addr-host ")", each an nstring
unfoldable pub address : Rule AddressValue
address =
    gives address_of
    (tag "(" ▹ byte_string ⨾ spaced byte_string ⨾ spaced byte_string ⨾ spaced byte_string ◃ tag ")")

-- an address, and maybe a space
unfoldable pub listed_address : Rule AddressValue
listed_address = address ◃ opt sp

-- 1*address, where a space may stand behind each
unfoldable pub some_addresses : Rule (List AddressValue)
some_addresses = some1 listed_address

abbrev pub Addresses : Type 0
Addresses = Option (List AddressValue)

-- "(" 1*address ")" / nil: env-from, and so env-sender, env-reply-to, env-to, env-cc, env-bcc
unfoldable pub addresses : Rule Addresses
addresses = nil_or (tag "(" ▹ some_addresses ◃ tag ")")

-- the last five fields: to, cc, bcc, in-reply-to, message-id
abbrev pub LastFieldsValue : Type 0
LastFieldsValue = Addresses × (Addresses × (Addresses × (Option Text × Option Text)))

abbrev pub envelope_of :
    Option Text × (Option Text × (Addresses × (Addresses × (Addresses × LastFieldsValue)))) →
    EnvelopeValue
envelope_of (date, (subject, (from, (sender, (reply_to, (to, (cc, (bcc, (in_reply_to, message_id))))))))) =
    record {
      date = date;
      subject = subject;
      from = from;
      sender = sender;
      reply_to = reply_to;
      to = to;
      cc = cc;
      bcc = bcc;
      in_reply_to = in_reply_to;
      message_id = message_id;
    }

-- envelope = "(" env-date SP env-subject SP env-from SP env-sender SP env-reply-to SP env-to SP env-cc SP env-bcc
--     SP env-in-reply-to SP env-message-id ")"
unfoldable pub envelope : Rule EnvelopeValue
envelope =
    gives envelope_of
    (tag "(" ▹ byte_string ⨾ spaced byte_string
    ⨾ spaced addresses ⨾ spaced addresses ⨾ spaced addresses
    ⨾ spaced addresses ⨾ spaced addresses ⨾ spaced addresses
    ⨾ spaced byte_string ⨾ spaced byte_string ◃ tag ")")

-- The end of an envelope, which has a reader of its own: SP env-to SP env-cc SP env-bcc SP env-in-reply-to SP
-- env-message-id ")"
abbrev pub last_fields : Rule LastFieldsValue
last_fields =
    spaced addresses
    ⨾ spaced addresses
    ⨾ spaced addresses
    ⨾ spaced byte_string
    ⨾ spaced byte_string ◃ tag ")"

-- in-reply-to and message-id
abbrev pub ids_seen : {B : Type 0} → (B → Text) → LastFields B → Option Text × Option Text
ids_seen f x = (option_map f x.in_reply_to, option_map f x.message_id)

-- What these fields say, where f is what a byte string says.
unfoldable pub last_fields_seen :
    {B : Type 0} → (B → Text) → LastFields B → LastFieldsValue
last_fields_seen f x =
    (addresses_seen f x.to, (addresses_seen f x.cc, (addresses_seen f x.bcc, ids_seen f x)))
