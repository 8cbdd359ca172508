-- The text of an outcome: a code in brackets, and information.
use Rattle.std.specs.Prelude.{◌≡◌, ℕ, Bool, false, ◌==◌, [], ◌∷◌, ◌++◌, Option, None, Some, encode_utf8, IsTrue}
use lib.Utf8.{scalar}
use Rattle.std.specs.Str.Lossy.{utf8_lossy}
use Rattle.imap_grammar.specs.Ascii.{carriage_return, open_bracket}
use Rattle.imap_grammar.specs.Classes.{is_text_char}
use Rattle.imap_grammar.specs.Text.{Bytes, Text}
use Rattle.imap_grammar.specs.Pieces.{Pieces, ◌then◌, space, plain}
use Rattle.imap_grammar.specs.ReadBack.{Texts}
use Rattle.imap_grammar.specs.Spelling.{this, exactly, ◌and◌, all_of, maybe, spells_line_text}
use Rattle.imap_data.specs.Codes.{CodeValue}
use Rattle.imap_data.specs.CodeTexts.{canonical_response_code, spells_response_code}
use Rattle.imap_proto.specs.Responses.{OutcomeValue}

-- ---- canonical text

abbrev pub canonical_parts : Option CodeValue → Option Text → Pieces
canonical_parts None None = []
canonical_parts None (Some information) = plain information
canonical_parts (Some code) None = canonical_response_code code
canonical_parts (Some code) (Some information) =
    canonical_response_code code then space then plain information

abbrev pub canonical_outcome : OutcomeValue → Pieces
canonical_outcome o = canonical_parts o.code o.information

-- behind a status: a space, where there is something to say
abbrev pub canonical_spaced_parts : Option CodeValue → Option Text → Pieces
canonical_spaced_parts None None = []
canonical_spaced_parts None (Some information) = space then plain information
canonical_spaced_parts (Some code) information = space then canonical_parts (Some code) information

abbrev pub canonical_spaced : OutcomeValue → Pieces
canonical_spaced o = canonical_spaced_parts o.code o.information

-- ---- information that begins as a code does

abbrev pub opens_bracket : Bytes → Bool
opens_bracket [] = false
opens_bracket (b ∷ bytes) = open_bracket == b

abbrev pub is_like_code : Option CodeValue → Option Text → Bool
is_like_code None None = false
is_like_code None (Some information) = opens_bracket information.bytes
is_like_code (Some code) information = false

-- no code, and information that begins with `[`
abbrev pub is_bracketed : OutcomeValue → Bool
is_bracketed o = is_like_code o.code o.information

abbrev pub IsPlain : OutcomeValue → Type 0
IsPlain o = is_bracketed o ≡ false

-- a CR follows, as where a line ends; what stands behind the CR is not asked
abbrev pub Ends : Texts
Ends t = (u : Bytes) × (t ≡ carriage_return ∷ u)

-- ---- spelling

-- behind a code any one character, or one ill-formed part, stands before the information
abbrev pub spells_behind_code : Text → Texts
spells_behind_code information c =
    all_of is_text_char c
    × ((first : ℕ)
    × IsTrue (scalar first)
    × (utf8_lossy c ≡ encode_utf8 first ++ information.bytes))

abbrev pub spells_parts : Option CodeValue → Option Text → Texts
spells_parts None None = this []
spells_parts None (Some information) = spells_line_text information
spells_parts (Some code) None = spells_response_code code
spells_parts (Some code) (Some information) =
    spells_response_code code and spells_behind_code information

abbrev pub spells_outcome : OutcomeValue → Texts
spells_outcome o = spells_parts o.code o.information

-- behind a status: a space and the outcome; where there is nothing to say, nothing or a space
abbrev pub spells_spaced_parts : Option CodeValue → Option Text → Texts
spells_spaced_parts None None = maybe (exactly " ")
spells_spaced_parts None (Some information) = exactly " " and spells_parts None (Some information)
spells_spaced_parts (Some code) information = exactly " " and spells_parts (Some code) information

abbrev pub spells_spaced : OutcomeValue → Texts
spells_spaced o = spells_spaced_parts o.code o.information
