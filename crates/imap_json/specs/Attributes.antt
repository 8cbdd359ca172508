-- Attributes of a message.
use Rattle.std.specs.Prelude.{[], ◌∷◌, codes}
use Rattle.serde_json.specs.Data.{Data}
use Rattle.imap_body.specs.AttributeValues.{AttributeValue}
use Rattle.imap_body.specs.AttributeValues as said
use Rattle.imap_json.specs.Forms.{string_json, number_json, option_json, list_json, object_json, variant_json}
use Rattle.imap_json.specs.Texts.{text_json}
use Rattle.imap_json.specs.Sections.{path_json}
use Rattle.imap_json.specs.Envelopes.{nbytes_json, envelope_json}
use Rattle.imap_json.specs.Fields.{ntext_json}
use Rattle.imap_json.specs.Bodies.{body_json}

abbrev pub attribute_json : AttributeValue → Data
attribute_json (said.BodySection section index contents) =
    variant_json (codes "BodySection")
    (object_json
    ((codes "section", option_json path_json section)
    ∷ (codes "index", option_json number_json index)
    ∷ (codes "contents", nbytes_json contents)
    ∷ []))
attribute_json (said.BodyStructure body) = variant_json (codes "BodyStructure") (body_json body)
attribute_json (said.Envelope envelope) = variant_json (codes "Envelope") (envelope_json envelope)
attribute_json (said.Flags flags) = variant_json (codes "Flags") (list_json text_json flags)
attribute_json (said.InternalDate date) = variant_json (codes "InternalDate") (text_json date)
attribute_json (said.ModSeq n) = variant_json (codes "ModSeq") (number_json n)
attribute_json (said.Rfc822 message) = variant_json (codes "Rfc822") (nbytes_json message)
attribute_json (said.Rfc822Header header) = variant_json (codes "Rfc822Header") (nbytes_json header)
attribute_json (said.Rfc822Size n) = variant_json (codes "Rfc822Size") (number_json n)
attribute_json (said.Rfc822Text text) = variant_json (codes "Rfc822Text") (nbytes_json text)
attribute_json (said.Uid n) = variant_json (codes "Uid") (number_json n)
attribute_json (said.GmailLabels labels) =
    variant_json (codes "GmailLabels") (list_json text_json labels)
attribute_json (said.GmailMsgId n) = variant_json (codes "GmailMsgId") (number_json n)
attribute_json (said.GmailThrId n) = variant_json (codes "GmailThrId") (number_json n)
attribute_json (said.EmailId id) = variant_json (codes "EmailId") (text_json id)
attribute_json (said.ThreadId id) = variant_json (codes "ThreadId") (ntext_json id)
attribute_json (said.SaveDate date) = variant_json (codes "SaveDate") (ntext_json date)
attribute_json said.Unknown = string_json (codes "Unknown")
