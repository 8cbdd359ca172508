-- Messages that are gone (RFC 7162, section 7: expunged-resp).
use Rattle.std.specs.Prelude.{ℕ, Bool, true, false, List, map}
use Rattle.std.specs.Global.{Vec}
use Rattle.std.specs.declared.ops.RangeInclusive.{RangeInclusive}
use Rattle.imap_grammar.specs.Rule.{Rule, otherwise, ◌⨾◌, ◌▹◌}
use Rattle.imap_grammar.specs.Ranges.{Range, range_of}
use Rattle.imap_grammar.specs.Tags.{word, names, blanks1}
use Rattle.imap_bytes.specs.Sets.{sequence_set}

abbrev pub earlier_word : Rule Bool
earlier_word = blanks1 ▹ names "(EARLIER)" true

-- whether they were gone before
unfoldable pub earlier : Rule Bool
earlier = otherwise earlier_word false

-- expunged-resp = "VANISHED" [SP "(EARLIER)"] SP known-uids, with any blanks as SP
unfoldable pub vanished : Rule (Bool × List Range)
vanished = word "VANISHED" ▹ earlier ⨾ blanks1 ▹ sequence_set

abbrev pub vanished_value : Bool × Vec (RangeInclusive ℕ) → Bool × List Range
vanished_value v = (v.0, map (λ r. range_of r) v.1.items)
