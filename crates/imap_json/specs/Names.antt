-- Attributes of mailbox names, and the data of LIST.
use Rattle.std.specs.Prelude.{[], ◌∷◌, codes}
use Rattle.serde_json.specs.Data.{Data}
use Rattle.imap_data.specs.Names.{NameAttributeValue, NoInferiors, NoSelect, Marked, Unmarked, All, Archive, Drafts, Flagged, Junk, Sent, Trash, Extension, ListValue}
use Rattle.imap_json.specs.Forms.{string_json, option_json, list_json, object_json, variant_json}
use Rattle.imap_json.specs.Texts.{text_json}

abbrev pub name_attribute_json : NameAttributeValue → Data
name_attribute_json NoInferiors = string_json (codes "NoInferiors")
name_attribute_json NoSelect = string_json (codes "NoSelect")
name_attribute_json Marked = string_json (codes "Marked")
name_attribute_json Unmarked = string_json (codes "Unmarked")
name_attribute_json All = string_json (codes "All")
name_attribute_json Archive = string_json (codes "Archive")
name_attribute_json Drafts = string_json (codes "Drafts")
name_attribute_json Flagged = string_json (codes "Flagged")
name_attribute_json Junk = string_json (codes "Junk")
name_attribute_json Sent = string_json (codes "Sent")
name_attribute_json Trash = string_json (codes "Trash")
name_attribute_json (Extension t) = variant_json (codes "Extension") (text_json t)

abbrev pub list_data_json : ListValue → Data
list_data_json l =
    object_json
    ((codes "name_attributes", list_json name_attribute_json l.name_attributes)
    ∷ (codes "delimiter", option_json text_json l.delimiter)
    ∷ (codes "name", text_json l.name)
    ∷ [])
