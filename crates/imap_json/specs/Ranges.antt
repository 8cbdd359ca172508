-- Ranges of numbers.
use Rattle.std.specs.Prelude.{codes, if◌then◌else◌}
use Rattle.serde_json.specs.Data.{Data}
use Rattle.imap_grammar.specs.Ranges.{Range}
use Rattle.imap_json.specs.Forms.{number_json, pair_json, variant_json}

abbrev pub ends_json : Range → Data
ends_json r = pair_json number_json number_json (r.start, r.end)

-- its two ends, as they stand; a range whose numbers were all taken says so
abbrev pub range_json : Range → Data
range_json r = if r.spent then variant_json (codes "Spent") (ends_json r) else ends_json r
