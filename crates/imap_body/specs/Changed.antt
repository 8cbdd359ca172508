-- What an attribute of a message says with each text changed by h.
use Rattle.std.specs.Prelude.{map}
use Rattle.imap_grammar.specs.Text.{Text, owned_text, lent_text}
use Rattle.imap_body_types.specs.Changed.{changed_ntext, changed_envelope, changed_body}
use Rattle.imap_body.specs.AttributeValues.{AttributeValue}
use Rattle.imap_body.specs.AttributeValues as said

abbrev pub changed_attribute : (Text → Text) → AttributeValue → AttributeValue
changed_attribute h (said.BodySection section index contents) =
    said.BodySection section index (changed_ntext h contents)
changed_attribute h (said.BodyStructure body) = said.BodyStructure (changed_body h body)
changed_attribute h (said.Envelope envelope) = said.Envelope (changed_envelope h envelope)
changed_attribute h (said.Flags flags) = said.Flags (map h flags)
changed_attribute h (said.InternalDate date) = said.InternalDate (h date)
changed_attribute h (said.ModSeq n) = said.ModSeq n
changed_attribute h (said.Rfc822 message) = said.Rfc822 (changed_ntext h message)
changed_attribute h (said.Rfc822Header header) = said.Rfc822Header (changed_ntext h header)
changed_attribute h (said.Rfc822Size n) = said.Rfc822Size n
changed_attribute h (said.Rfc822Text text) = said.Rfc822Text (changed_ntext h text)
changed_attribute h (said.Uid n) = said.Uid n
changed_attribute h (said.GmailLabels labels) = said.GmailLabels (map h labels)
changed_attribute h (said.GmailMsgId n) = said.GmailMsgId n
changed_attribute h (said.GmailThrId n) = said.GmailThrId n
changed_attribute h (said.EmailId id) = said.EmailId (h id)
changed_attribute h (said.ThreadId id) = said.ThreadId (changed_ntext h id)
changed_attribute h (said.SaveDate date) = said.SaveDate (changed_ntext h date)
changed_attribute h said.Unknown = said.Unknown

-- with all its texts owned
abbrev pub owned_attribute : AttributeValue → AttributeValue
owned_attribute x = changed_attribute owned_text x

-- with all its texts borrowed: two attributes say the same where these are equal
abbrev pub lent_attribute : AttributeValue → AttributeValue
lent_attribute x = changed_attribute lent_text x
