-- What an implementation says of itself (RFC 2971, section 4: id_response, id_params_list), with any blanks between the
-- parts, and at least one pair in a list. Its value is a finite map from the bytes of keys to texts. It doesn't say
-- whether a key is borrowed: of two equal keys either may be kept.
use Rattle.std.specs.Prelude.{List, Option, None, Some, [], ◌∷◌, option_map, map}
use Rattle.imap_grammar.specs.Text.{Text, Bytes, text_of, lent_text}
use Rattle.imap_grammar.specs.Rule.{Rule, nothing, gives, list1, ◌⨾◌, ◌▹◌, ◌◃◌, ◌or◌}
use Rattle.imap_grammar.specs.Tags.{tag, word, blanks0, blanks1}
use Rattle.imap_bytes.specs.Strings.{nil}
use Rattle.imap_bytes.specs.Texts.{string_utf8, nstring_utf8}
use Rattle.std.specs.Ordering.{nat_cmp}
use Rattle.std.specs.Cow.{cow_str_bytes}
use Rattle.std.specs.Cmp.Lexicographic.{slice_cmp}
use Rattle.std.specs.declared.hash.FoldHasher.{FoldHasher}
use Rattle.std.specs.declared.hash.BuildHasherDefault.{BuildHasherDefault}
use Rattle.std.specs.declared.borrow.CowStr.{CowStr}
use Rattle.std.specs.declared.alloc.Global.{Global}
use Rattle.std.specs.HashMap.{HashMap}
use Rattle.std.specs.FinMap.{FinMap, insert, empty, entries, from_entries}

-- ---- values

abbrev pub IdValue : Type 0
IdValue = FinMap (slice_cmp nat_cmp) Text

-- The pairs put in turn: one without a value is dropped, and the last of equal keys wins.
abbrev pub put_pair : IdValue → Text × Option Text → IdValue
put_pair m (key, None) = m
put_pair m (key, Some value) = insert m key.bytes value

abbrev pub put_pairs : IdValue → List (Text × Option Text) → IdValue
put_pairs m [] = m
put_pairs m (p ∷ ps) = put_pairs (put_pair m p) ps

abbrev pub map_of_pairs : List (Text × Option Text) → IdValue
map_of_pairs ps = put_pairs empty ps

-- `NIL` in place of the list
abbrev pub IsNil : Option IdValue → Type 0
IsNil None = Unit {0}
IsNil (Some map) = ⊥

-- ---- of the code's values

abbrev pub IdTable : Type 0
IdTable = HashMap (CowStr Global) (CowStr Global) (BuildHasherDefault FoldHasher)

abbrev pub entry_value : CowStr Global × CowStr Global → Bytes × Text
entry_value e = (cow_str_bytes e.0, text_of e.1)

abbrev pub id_value : IdTable → IdValue
id_value m = from_entries (map entry_value m.entries)

abbrev pub pair_value : CowStr Global × Option (CowStr Global) → Text × Option Text
pair_value p = (text_of p.0, option_map text_of p.1)

-- ---- with each text changed by h

abbrev pub changed_entry : (Text → Text) → Bytes × Text → Bytes × Text
changed_entry h e = (e.0, h e.1)

abbrev pub changed_id : (Text → Text) → IdValue → IdValue
changed_id h m = from_entries (map (changed_entry h) (entries m))

-- ---- with all texts borrowed: two maps say the same where these are equal

abbrev pub lent_entry : Bytes × Text → Bytes × Text
lent_entry = changed_entry lent_text

abbrev pub lent_id : IdValue → IdValue
lent_id = changed_id lent_text

abbrev pub id_content : IdTable → IdValue
id_content m = lent_id (id_value m)

-- ---- rules

-- a field and its value
unfoldable pub id_pair : Rule (Text × Option Text)
id_pair = string_utf8 ⨾ blanks1 ▹ nstring_utf8

unfoldable pub next_pair : Rule (Text × Option Text)
next_pair = blanks1 ▹ id_pair

unfoldable pub id_pairs : Rule (List (Text × Option Text))
id_pairs = list1 blanks1 id_pair

unfoldable pub id_list : Rule (List (Text × Option Text))
id_list = tag "(" ▹ id_pairs ◃ blanks0 ⨾ tag ")"

-- the same, as the map of the pairs
unfoldable pub id_map : Rule IdValue
id_map = tag "(" ▹ gives map_of_pairs id_pairs ◃ blanks0 ⨾ tag ")"

abbrev pub params_of : List (Text × Option Text) → Option IdValue
params_of ps = Some (map_of_pairs ps)

abbrev pub some_params : Rule (Option IdValue)
some_params = gives params_of id_list

-- id_params_list = "(" #(string SPACE nstring) ")" / nil, where `#` is any number: an empty list is denied here
unfoldable pub id_params : Rule (Option IdValue)
id_params = some_params or nil ▹ nothing None

-- id_response = "ID" SPACE id_params_list
unfoldable pub id : Rule (Option IdValue)
id = word "ID" ▹ blanks1 ▹ id_params
