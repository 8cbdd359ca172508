-- Extension data of bodies.
use Rattle.std.specs.Prelude.{[], ◌∷◌, List, Option, codes}
use Rattle.serde_json.specs.Data.{Data, array, Items, no_items, item}
use Rattle.imap_grammar.specs.Text.{Text}
use Rattle.imap_body_types.specs.ExtensionValues.{DispositionValue, ExtensionValue, Num, Str, Listed, Extensions, no_extensions, one_extension}
use Rattle.imap_json.specs.Forms.{number_json, option_json, list_json, object_json, variant_json}
use Rattle.imap_json.specs.Texts.{text_json}
use Rattle.imap_json.specs.Fields.{ntext_json, params_json}

abbrev pub disposition_json : DispositionValue → Data
disposition_json d =
    object_json ((codes "ty", text_json d.ty) ∷ (codes "params", params_json d.params) ∷ [])

abbrev pub languages_json : Option (List Text) → Data
languages_json = option_json (list_json text_json)

abbrev mutual
  pub extension_json : ExtensionValue → Data
  extension_json (Num n) = variant_json (codes "Num") (number_json n)
  extension_json (Str text) = variant_json (codes "Str") (ntext_json text)
  extension_json (Listed members) = variant_json (codes "List") (array (extension_items members))

  pub extension_items : Extensions → Items
  extension_items no_extensions = no_items
  extension_items (one_extension e es) = item (extension_json e) (extension_items es)

abbrev pub last_json : Option ExtensionValue → Data
last_json = option_json extension_json
