-- Quotas.
use Rattle.std.specs.Prelude.{[], ◌∷◌, codes}
use Rattle.serde_json.specs.Data.{Data}
use Rattle.imap_extensions.specs.Quotas.{QuotaResourceNameValue, Storage, Message, Atom, QuotaResourceValue, QuotaValue, QuotaRootValue}
use Rattle.imap_json.specs.Forms.{string_json, number_json, list_json, object_json, variant_json}
use Rattle.imap_json.specs.Texts.{text_json}

abbrev pub resource_name_json : QuotaResourceNameValue → Data
resource_name_json Storage = string_json (codes "Storage")
resource_name_json Message = string_json (codes "Message")
resource_name_json (Atom name) = variant_json (codes "Atom") (text_json name)

abbrev pub resource_json : QuotaResourceValue → Data
resource_json r =
    object_json
    ((codes "name", resource_name_json r.name)
    ∷ (codes "usage", number_json r.usage)
    ∷ (codes "limit", number_json r.limit)
    ∷ [])

abbrev pub quota_json : QuotaValue → Data
quota_json q =
    object_json
    ((codes "root_name", text_json q.root_name)
    ∷ (codes "resources", list_json resource_json q.resources)
    ∷ [])

abbrev pub quota_root_json : QuotaRootValue → Data
quota_root_json q =
    object_json
    ((codes "mailbox_name", text_json q.mailbox_name)
    ∷ (codes "quota_root_names", list_json text_json q.quota_root_names)
    ∷ [])
