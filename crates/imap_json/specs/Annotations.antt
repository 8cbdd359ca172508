-- Annotations of mailboxes.
use Rattle.std.specs.Prelude.{[], ◌∷◌, codes}
use Rattle.serde_json.specs.Data.{Data}
use Rattle.imap_data.specs.AnnotationValues.{MetadataValue}
use Rattle.imap_json.specs.Forms.{string_json, option_json, object_json}

abbrev pub metadata_json : MetadataValue → Data
metadata_json m =
    object_json
    ((codes "entry", string_json m.entry) ∷ (codes "value", option_json string_json m.value) ∷ [])
