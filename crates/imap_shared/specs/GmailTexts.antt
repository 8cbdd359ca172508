-- The text of Gmail's items.
use Rattle.std.specs.Prelude.{ℕ, List, cond, ◌⊎◌}
use Rattle.imap_grammar.specs.Text.{Text}
use Rattle.imap_grammar.specs.Pieces.{Pieces, ◌then◌, words, number_text, plain, quoted_text, list_text}
use Rattle.imap_grammar.specs.ReadBack.{Texts}
use Rattle.imap_grammar.specs.Spelling.{in_any_case, ◌and◌, spells_number, spells_quoted_text, spells_list}
use Rattle.imap_shared.specs.FlagTexts.{is_flag, spells_flag}

-- a label stands as it is where it is a flag, and else in quotes
abbrev pub canonical_label : Text → Pieces
canonical_label t = cond (is_flag t.bytes) (plain t) (quoted_text t)

abbrev pub spells_label : Text → Texts
spells_label t c = spells_flag t.bytes c ⊎ spells_quoted_text t c

abbrev pub canonical_label_list : List Text → Pieces
canonical_label_list labels = words "X-GM-LABELS " then list_text canonical_label labels

abbrev pub spells_label_list : List Text → Texts
spells_label_list labels = in_any_case "X-GM-LABELS " and spells_list spells_label labels

abbrev pub canonical_msgid : ℕ → Pieces
canonical_msgid n = words "X-GM-MSGID " then number_text n

abbrev pub spells_msgid : ℕ → Texts
spells_msgid n = in_any_case "X-GM-MSGID " and spells_number n

abbrev pub canonical_thrid : ℕ → Pieces
canonical_thrid n = words "X-GM-THRID " then number_text n

abbrev pub spells_thrid : ℕ → Texts
spells_thrid n = in_any_case "X-GM-THRID " and spells_number n
