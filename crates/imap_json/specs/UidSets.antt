-- Sets of UIDs.
use Rattle.std.specs.Prelude.{codes}
use Rattle.serde_json.specs.Data.{Data}
use Rattle.imap_shared.specs.UidSets.{MemberValue, UidRange, Uid}
use Rattle.imap_json.specs.Forms.{number_json, variant_json}
use Rattle.imap_json.specs.Ranges.{range_json}

abbrev pub member_json : MemberValue → Data
member_json (UidRange r) = variant_json (codes "UidRange") (range_json r)
member_json (Uid n) = variant_json (codes "Uid") (number_json n)
