-- The text of flags.
use Rattle.std.specs.Prelude.{Bool, false, List, [], ◌∷◌, ◌==◌, ◌&&◌, ◌||◌, ◌≡◌, ◌⊎◌, codes, IsTrue}
use Rattle.std.specs.List.{list_all}
use Rattle.std.specs.Str.{is_utf8}
use Rattle.imap_grammar.specs.Ascii.{backslash}
use Rattle.imap_grammar.specs.Classes.{is_atom_char, is_astring_char}
use Rattle.imap_grammar.specs.Text.{Bytes, Text}
use Rattle.imap_grammar.specs.Pieces.{Pieces, raw, plain, list_text}
use Rattle.imap_grammar.specs.ReadBack.{Texts}
use Rattle.imap_grammar.specs.Spelling.{this, spells_list}

abbrev pub canonical_flag : Bytes → Pieces
canonical_flag = raw

abbrev pub canonical_flag_list : List Text → Pieces
canonical_flag_list = list_text plain

-- `\` and atom-chars, maybe none; or at least one astring-char
abbrev pub is_flag_word : Bytes → Bool
is_flag_word [] = false
is_flag_word (b ∷ w) =
    ((backslash == b) && list_all is_atom_char w) || list_all is_astring_char (b ∷ w)

-- the whole text is a flag
abbrev pub is_flag : Bytes → Bool
is_flag b = is_utf8 b && is_flag_word b

-- a flag stands as it is
abbrev pub spells_flag : Bytes → Texts
spells_flag b c = IsTrue (is_flag b) × this b c

abbrev pub spells_flag_perm : Bytes → Texts
spells_flag_perm b c = ((b ≡ codes "\\*") × this b c) ⊎ spells_flag b c

abbrev pub spells_flag_list : List Text → Texts
spells_flag_list = spells_list (λ t. spells_flag_perm t.bytes)
