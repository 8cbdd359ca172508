-- Items of STATUS.
use Rattle.std.specs.Prelude.{codes}
use Rattle.serde_json.specs.Data.{Data}
use Rattle.imap_data.specs.declared.types.counts.StatusAttribute.{StatusAttribute}
use Rattle.imap_data.specs.declared.types.counts.StatusAttribute.TheVariants.{HighestModSeq, Messages, Recent, UidNext, UidValidity, Unseen}
use Rattle.imap_json.specs.Forms.{number_json, variant_json}

abbrev pub status_item_json : StatusAttribute → Data
status_item_json (HighestModSeq n) = variant_json (codes "HighestModSeq") (number_json n)
status_item_json (Messages n) = variant_json (codes "Messages") (number_json n)
status_item_json (Recent n) = variant_json (codes "Recent") (number_json n)
status_item_json (UidNext n) = variant_json (codes "UidNext") (number_json n)
status_item_json (UidValidity n) = variant_json (codes "UidValidity") (number_json n)
status_item_json (Unseen n) = variant_json (codes "Unseen") (number_json n)
