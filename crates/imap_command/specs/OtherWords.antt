-- Names, words and lists of commands that have no builder of their own: which are refused, and their text
-- (RFC 3501, section 9: command, atom).
use Rattle.std.specs.Prelude.{ℕ, Bool, false, ◌==◌, ◌&&◌, ◌||◌, nat_lt, not, List, [], ◌∷◌, ◌++◌, if◌then◌else◌, codes, Option, None, Some}
use Rattle.std.specs.List.{list_all, flat_map}
use Rattle.std.specs.Option.{option_or}
use Rattle.imap_command.specs.Ascii.{space, quote, open_parenthesis, close_parenthesis, hyphen, period, open_brace}
use Rattle.imap_command.specs.declared.errors.BuildError.{BuildError}
use Rattle.imap_command.specs.declared.errors.BuildError.TheVariants.{BadName, BadWord}

-- A byte of a word: from 33 to 126, so neither a space nor a control, but the four that begin a quoted string or a
-- literal, or open or close a list.
abbrev pub is_word_byte : ℕ → Bool
is_word_byte b =
    nat_lt 32 b && nat_lt b 127
    && not (b == quote || b == open_parenthesis || b == close_parenthesis || b == open_brace)

-- 1*word-byte
abbrev pub is_word : List ℕ → Bool
is_word [] = false
is_word (b ∷ rest) = list_all is_word_byte (b ∷ rest)

-- a byte of a command's name: a letter, a digit, `-` or `.`
abbrev pub is_name_byte : ℕ → Bool
is_name_byte b =
    (nat_lt 47 b && nat_lt b 58) || (nat_lt 64 b && nat_lt b 91) || (nat_lt 96 b && nat_lt b 123)
    || b == hyphen || b == period

-- 1*name-byte
abbrev pub is_name_word : List ℕ → Bool
is_name_word [] = false
is_name_word (b ∷ rest) = list_all is_name_byte (b ∷ rest)

-- the byte before the first of some texts
abbrev pub before_first : ℕ → List (List ℕ) → List (List ℕ)
before_first b [] = (b ∷ []) ∷ []
before_first b (first ∷ others) = (b ∷ first) ∷ others

-- what stands before, between and behind the spaces of a text
abbrev pub between_spaces : List ℕ → List (List ℕ)
between_spaces [] = [] ∷ []
between_spaces (b ∷ rest) =
    if b == space then [] ∷ between_spaces rest else before_first b (between_spaces rest)

-- name-word *(SP name-word)
abbrev pub is_name : List ℕ → Bool
is_name name = list_all is_name_word (between_spaces name)

-- why a name or a word is refused, if it is
abbrev pub name_refusal : List ℕ → Option BuildError
name_refusal name = if is_name name then None else Some BadName

abbrev pub word_refusal : List ℕ → Option BuildError
word_refusal word = if is_word word then None else Some BadWord

-- the refusal of some texts: that of the first that has one
abbrev pub first_refusal : (List ℕ → Option BuildError) → List (List ℕ) → Option BuildError
first_refusal refusal_of [] = None
first_refusal refusal_of (text ∷ others) = option_or (refusal_of text) (first_refusal refusal_of others)

-- a text behind a space
abbrev pub behind_space : List ℕ → List ℕ
behind_space text = codes " " ++ text

-- [text *(SP text)]
abbrev pub spaced : List (List ℕ) → List ℕ
spaced [] = []
spaced (first ∷ others) = first ++ flat_map behind_space others

-- "(" [text *(SP text)] ")"
abbrev pub bracketed : List (List ℕ) → List ℕ
bracketed texts = codes "(" ++ (spaced texts ++ codes ")")
