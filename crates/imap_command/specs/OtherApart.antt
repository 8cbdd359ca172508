-- What the line of a command that has no builder of its own shows a reader: the words that single spaces part outside
-- quotes and brackets. Lines with equal bytes show equal words.
use Rattle.std.specs.Prelude.{◌≡◌, ℕ, Bool, true, false, List, [], ◌∷◌, ◌++◌, map, reverse, codes, Option, None, Some}
use Rattle.imap_command.specs.OtherWords.{between_spaces}
use Rattle.imap_command.specs.OtherCalls.{Argument, word, string, number, num, range, range_from, list, strings, section, literal, argument_text, goes_on, stage, begun}
use Rattle.imap_command.specs.OtherLine.{Sound}
use Rattle.imap_command.specs.Sections.{Section, section_names, before_names, behind_names}

-- a word without quotes, a quoted string by its content, and a list of quoted strings in brackets with a word right
-- behind it
pub data Item : Type 0 where
  plain : List ℕ → Item
  text : List ℕ → Item
  names : List (List ℕ) → List ℕ → Item

-- a word by itself, a list of them in brackets, and what announces a literal of so many bytes
pub data Shown : Type 0 where
  single : Item → Shown
  listed : List Item → Shown
  announced : ℕ → Shown

abbrev pub plain_word : List ℕ → Shown
plain_word bytes = single (plain bytes)

-- A section shows one word. With names of header fields it shows two: what stands before the names, and these with
-- what stands behind them.
abbrev pub section_shown : Section → Option (List (List ℕ)) → List Shown
section_shown asked None = plain_word (before_names asked ++ behind_names asked) ∷ []
section_shown asked (Some listed_names) =
    single (names listed_names (behind_names asked)) ∷ plain_word (before_names asked) ∷ []

-- What an argument shows, the last first. A number is a word like any other.
abbrev pub argument_shown : Argument → List Shown
argument_shown (word bytes) = plain_word bytes ∷ []
argument_shown (string content) = single (text content) ∷ []
argument_shown (number n) = plain_word (argument_text (number n)) ∷ []
argument_shown (num n) = plain_word (argument_text (num n)) ∷ []
argument_shown (range first last) = plain_word (argument_text (range first last)) ∷ []
argument_shown (range_from first) = plain_word (argument_text (range_from first)) ∷ []
argument_shown (list words) = listed (map plain words) ∷ []
argument_shown (strings contents) = listed (map text contents) ∷ []
argument_shown (section asked) = section_shown asked (section_names asked.text)
argument_shown (literal n) = announced n ∷ []

-- a set that goes on with one member more
abbrev pub with_member : List ℕ → Shown → Shown
with_member member (single (plain set)) = plain_word (set ++ (codes "," ++ member))
with_member member other = other

-- words with an argument more: words of its own, or else a member of the set that is last of them
abbrev pub and_argument : Bool → Argument → List Shown → List Shown
and_argument true argument (last ∷ before) = with_member (argument_text argument) last ∷ before
and_argument true argument [] = []
and_argument false argument before = argument_shown argument ++ before

-- The words on the line, the last first: those of the name and those of the arguments. A set is one word, with its
-- commas.
abbrev pub shown : List ℕ → List Argument → List Shown
shown name [] = reverse (map plain_word (between_spaces name))
shown name (argument ∷ before) =
    and_argument (goes_on (stage before) argument) argument (shown name before)

-- Commands of the same bytes show the same words, whatever bytes their strings have. Which call added a word the bytes
-- don't tell: `number(5)` and `word("5")` are one.
abbrev pub WordsToldApart : Type 0
WordsToldApart =
    (name other_name : List ℕ) (arguments others : List Argument) → Sound name arguments → Sound other_name others
    → begun name arguments ≡ begun other_name others → shown name arguments ≡ shown other_name others
