-- The text of messages that are gone.
use Rattle.std.specs.Prelude.{Bool, true, false, List, []}
use Rattle.imap_grammar.specs.Pieces.{Pieces, ◌then◌, words, space, ranges_text}
use Rattle.imap_grammar.specs.Ranges.{Range}
use Rattle.imap_grammar.specs.ReadBack.{Texts}
use Rattle.imap_grammar.specs.Spelling.{this, in_any_case, ◌and◌, some_blanks, spells_ranges}

abbrev pub canonical_earlier : Bool → Pieces
canonical_earlier true = words " (EARLIER)"
canonical_earlier false = []

abbrev pub canonical_vanished : Bool × List Range → Pieces
canonical_vanished (earlier, uids) =
    words "VANISHED" then canonical_earlier earlier then space then ranges_text uids

abbrev pub spells_earlier : Bool → Texts
spells_earlier true = some_blanks and in_any_case "(EARLIER)"
spells_earlier false = this []

abbrev pub spells_vanished : Bool × List Range → Texts
spells_vanished (earlier, uids) =
    in_any_case "VANISHED" and spells_earlier earlier and some_blanks and spells_ranges uids
