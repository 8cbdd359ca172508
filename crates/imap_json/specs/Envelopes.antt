-- Envelopes and addresses.
use Rattle.std.specs.Prelude.{[], ◌∷◌, List, Option, codes}
use Rattle.serde_json.specs.Data.{Data}
use Rattle.imap_grammar.specs.Text.{Text}
use Rattle.imap_body_types.specs.EnvelopeValues.{AddressValue, EnvelopeValue}
use Rattle.imap_json.specs.Forms.{option_json, list_json, object_json}
use Rattle.imap_json.specs.Texts.{bytes_json}

abbrev pub nbytes_json : Option Text → Data
nbytes_json = option_json bytes_json

abbrev pub address_json : AddressValue → Data
address_json a =
    object_json
    ((codes "name", nbytes_json a.name)
    ∷ (codes "adl", nbytes_json a.adl)
    ∷ (codes "mailbox", nbytes_json a.mailbox)
    ∷ (codes "host", nbytes_json a.host)
    ∷ [])

abbrev pub addresses_json : Option (List AddressValue) → Data
addresses_json = option_json (list_json address_json)

abbrev pub envelope_json : EnvelopeValue → Data
envelope_json e =
    object_json
    ((codes "date", nbytes_json e.date)
    ∷ (codes "subject", nbytes_json e.subject)
    ∷ (codes "from", addresses_json e.from)
    ∷ (codes "sender", addresses_json e.sender)
    ∷ (codes "reply_to", addresses_json e.reply_to)
    ∷ (codes "to", addresses_json e.to)
    ∷ (codes "cc", addresses_json e.cc)
    ∷ (codes "bcc", addresses_json e.bcc)
    ∷ (codes "in_reply_to", nbytes_json e.in_reply_to)
    ∷ (codes "message_id", nbytes_json e.message_id)
    ∷ [])
