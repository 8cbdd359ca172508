-- The text of a set of UIDs.
use Rattle.std.specs.Prelude.{◌≡◌, ◌≤◌, ◌⊎◌, false, List}
use Rattle.imap_grammar.specs.Pieces.{Pieces, words, number_text, range_text, separated}
use Rattle.imap_grammar.specs.ReadBack.{Texts}
use Rattle.imap_grammar.specs.Spelling.{exactly, some_with_between, spells_number, spells_ends}
use Rattle.imap_shared.specs.UidSets.{MemberValue, UidRange, Uid}

abbrev pub canonical_member : MemberValue → Pieces
canonical_member (UidRange r) = range_text r
canonical_member (Uid n) = number_text n

abbrev pub canonical_uid_set : List MemberValue → Pieces
canonical_uid_set = separated (words ",") canonical_member

-- a range by its ends in either order; no text spells one that is spent, or that starts above its end
abbrev pub spells_member : MemberValue → Texts
spells_member (UidRange r) c =
    (r.spent ≡ false)
    × (r.start ≤ r.end)
    × (spells_ends r.start r.end c ⊎ spells_ends r.end r.start c)
spells_member (Uid n) c = spells_number n c

abbrev pub spells_uid_set : List MemberValue → Texts
spells_uid_set = some_with_between (exactly ",") spells_member
