-- The text of what an implementation says of itself.
use Rattle.std.specs.Prelude.{◌≡◌, List, [], ◌∷◌, Option, None, Some}
use Rattle.std.specs.FinMap.{entries}
use Rattle.imap_grammar.specs.Text.{Bytes, Text}
use Rattle.imap_grammar.specs.Pieces.{Pieces, ◌then◌, words, space, lit, literal_text, list_text}
use Rattle.imap_grammar.specs.ReadBack.{Texts}
use Rattle.imap_grammar.specs.Spelling.{exactly, in_any_case, ◌and◌, blanks, some_blanks, some_with_between, spells_string_text, spells_ntext}
use Rattle.imap_extensions.specs.Ids.{IdValue, map_of_pairs}

-- a field and its value
abbrev pub canonical_field : Bytes × Text → Pieces
canonical_field (key, value) = lit key then space then literal_text value

-- the fields in the order of their names' bytes; where there are none, one pair of an empty name and NIL
abbrev pub canonical_fields : List (Bytes × Text) → Pieces
canonical_fields [] = words "(" then lit [] then words " NIL)"
canonical_fields (e ∷ es) = list_text canonical_field (e ∷ es)

abbrev pub canonical_params : Option IdValue → Pieces
canonical_params None = words "NIL"
canonical_params (Some m) = canonical_fields (entries m)

abbrev pub canonical_id : Option IdValue → Pieces
canonical_id params = words "ID" then space then canonical_params params

abbrev pub spells_pair : Text × Option Text → Texts
spells_pair (key, value) = spells_string_text key and some_blanks and spells_ntext value

-- at least one pair, in any order: those without a value tell nothing, and the last of equal names wins
abbrev pub spells_params : Option IdValue → Texts
spells_params None = in_any_case "NIL"
spells_params (Some m) =
    λ c.
    (ps : List (Text × Option Text))
    × (map_of_pairs ps ≡ m)
    × (exactly "(" and some_with_between some_blanks spells_pair ps and blanks and exactly ")") c

abbrev pub spells_id : Option IdValue → Texts
spells_id params = in_any_case "ID" and some_blanks and spells_params params
