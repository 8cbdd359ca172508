-- Data of a mailbox.
use Rattle.std.specs.Prelude.{[], ◌∷◌, codes}
use Rattle.serde_json.specs.Data.{Data}
use Rattle.imap_data.specs.DatumValues.{DatumValue, Exists, Flags, Listed, Search, Sort, Status, Recent, MetadataSolicited, MetadataUnsolicited, GmailLabels, GmailMsgId, GmailThrId}
use Rattle.imap_json.specs.Forms.{number_json, list_json, object_json, variant_json}
use Rattle.imap_json.specs.Texts.{text_json}
use Rattle.imap_json.specs.Names.{list_data_json}
use Rattle.imap_json.specs.Counts.{status_item_json}
use Rattle.imap_json.specs.Annotations.{metadata_json}

abbrev pub datum_json : DatumValue → Data
datum_json (Exists n) = variant_json (codes "Exists") (number_json n)
datum_json (Flags flags) = variant_json (codes "Flags") (list_json text_json flags)
datum_json (Listed l) = variant_json (codes "List") (list_data_json l)
datum_json (Search ns) = variant_json (codes "Search") (list_json number_json ns)
datum_json (Sort ns) = variant_json (codes "Sort") (list_json number_json ns)
datum_json (Status mailbox items) =
    variant_json (codes "Status")
    (object_json
    ((codes "mailbox", text_json mailbox)
    ∷ (codes "status", list_json status_item_json items)
    ∷ []))
datum_json (Recent n) = variant_json (codes "Recent") (number_json n)
datum_json (MetadataSolicited mailbox values) =
    variant_json (codes "MetadataSolicited")
    (object_json
    ((codes "mailbox", text_json mailbox)
    ∷ (codes "values", list_json metadata_json values)
    ∷ []))
datum_json (MetadataUnsolicited mailbox values) =
    variant_json (codes "MetadataUnsolicited")
    (object_json
    ((codes "mailbox", text_json mailbox) ∷ (codes "values", list_json text_json values) ∷ []))
datum_json (GmailLabels labels) = variant_json (codes "GmailLabels") (list_json text_json labels)
datum_json (GmailMsgId n) = variant_json (codes "GmailMsgId") (number_json n)
datum_json (GmailThrId n) = variant_json (codes "GmailThrId") (number_json n)
