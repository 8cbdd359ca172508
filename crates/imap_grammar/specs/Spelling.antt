-- Which byte texts spell a value: by cases on the value, with no order of alternatives, no waiting and no greedy end.
use Rattle.std.specs.Prelude.{◌≡◌, ℕ, ◌<◌, ◌⊎◌, Bool, false, List, [], ◌∷◌, ◌++◌, length, codes, Option, None, Some, IsTrue}
use Prim.Native.String.{String}
use Rattle.std.specs.List.{list_all}
use Rattle.std.specs.Str.Parse.{digits_value}
use Rattle.std.specs.Str.{is_utf8}
use Rattle.std.specs.Str.Lossy.{utf8_lossy}
use Rattle.imap_grammar.specs.Ascii.{line_feed, carriage_return}
use Rattle.imap_grammar.specs.Classes.{is_digit, is_blank, is_quoted_char, is_astring_char, is_text_char}
use Rattle.imap_grammar.specs.Meaning.{is_word}
use Rattle.imap_grammar.specs.Tags.{same_letter}
use Rattle.imap_grammar.specs.Text.{Bytes, Text}
use Rattle.imap_grammar.specs.Ranges.{Range}
use Rattle.imap_grammar.specs.ReadBack.{Texts}

-- ---- words for sets of texts

abbrev pub this : Bytes → Texts
this b c = c ≡ b

abbrev pub exactly : String → Texts
exactly k = this (codes k)

abbrev pub in_any_case : String → Texts
in_any_case k c = IsTrue (is_word same_letter (codes k) c)

infixr 30 ◌and◌
abbrev pub ◌and◌ : Texts → Texts → Texts
◌and◌ P Q c = (a : Bytes) × (b : Bytes) × (c ≡ a ++ b) × P a × Q b

-- bytes of a class, maybe none
abbrev pub all_of : (ℕ → Bool) → Texts
all_of p c = IsTrue (list_all p c)

-- at least one byte of a class, and no other
abbrev pub some_of : (ℕ → Bool) → Texts
some_of p c = all_of p c × (0 < length c)

-- at least one byte of a class, in UTF-8
abbrev pub utf8_of : (ℕ → Bool) → Texts
utf8_of p c = some_of p c × IsTrue (is_utf8 c)

-- exactly these bytes, if they are among P
abbrev pub as_it_is : Texts → Bytes → Texts
as_it_is P b c = (c ≡ b) × P b

-- what spells, by P, some bytes whose lossy decoding is t
abbrev pub lossily : (Bytes → Texts) → Text → Texts
lossily P t c = (b : Bytes) × P b c × (utf8_lossy b ≡ t.bytes)

-- nothing, or P
abbrev pub maybe : Texts → Texts
maybe P c = (c ≡ []) ⊎ P c

-- blanks, maybe none
abbrev pub blanks : Texts
blanks = all_of is_blank

-- at least one blank
abbrev pub some_blanks : Texts
some_blanks = some_of is_blank

-- ---- options and lists

abbrev pub nil_or : {A : Type 0} → (A → Texts) → Option A → Texts
nil_or P None = in_any_case "NIL"
nil_or P (Some x) = P x

-- each in turn, maybe none
abbrev pub each_of : {A : Type 0} → (A → Texts) → List A → Texts
each_of P [] = this []
each_of P (x ∷ xs) = P x and each_of P xs

-- each in turn, at least one
abbrev pub some_each_of : {A : Type 0} → (A → Texts) → List A → Texts
some_each_of P [] = λ c. ⊥
some_each_of P (x ∷ xs) = P x and each_of P xs

-- each in turn with a text between, at least one
abbrev pub some_with_between : {A : Type 0} → Texts → (A → Texts) → List A → Texts
some_with_between S P [] = λ c. ⊥
some_with_between S P (x ∷ xs) = P x and each_of (λ y. S and P y) xs

-- each in turn with a text between, maybe none
abbrev pub with_between : {A : Type 0} → Texts → (A → Texts) → List A → Texts
with_between S P [] = this []
with_between S P (x ∷ xs) = some_with_between S P (x ∷ xs)

-- in brackets, with one space between; one more may stand before the bracket that closes
abbrev pub spells_list : {A : Type 0} → (A → Texts) → List A → Texts
spells_list P xs =
    exactly "(" and with_between (exactly " ") P xs and maybe (exactly " ") and exactly ")"

-- the same, at least one, and blanks before the bracket
abbrev pub spells_some_list : {A : Type 0} → (A → Texts) → List A → Texts
spells_some_list P xs =
    exactly "(" and some_with_between (exactly " ") P xs and blanks and exactly ")"

-- ---- the values of this crate's rules

-- with leading zeros or without
abbrev pub spells_number : ℕ → Texts
spells_number n c = IsTrue (list_all is_digit c) × (0 < length c) × (digits_value 10 c ≡ n)

abbrev pub spells_literal : Bytes → Texts
spells_literal b =
    exactly "{"
    and spells_number (length b)
    and exactly "}"
    and this (carriage_return ∷ line_feed ∷ [])
    and this b

-- quoted content: quoted-chars, and quoted-specials behind a backslash each
abbrev pub content_part : Texts
content_part c = some_of is_quoted_char c ⊎ (exactly "\\\\" c ⊎ exactly "\\\"" c)

abbrev pub content_text : Texts
content_text c = (parts : List Bytes) × each_of (as_it_is content_part) parts c

-- the content is raw: backslashes stay
abbrev pub spells_quoted : Bytes → Texts
spells_quoted b = exactly "\"" and as_it_is content_text b and exactly "\""

abbrev pub spells_string : Bytes → Texts
spells_string b c = spells_quoted b c ⊎ spells_literal b c

abbrev pub spells_astring : Bytes → Texts
spells_astring b c = as_it_is (some_of is_astring_char) b c ⊎ spells_string b c

abbrev pub spells_nstring : Option Bytes → Texts
spells_nstring = nil_or spells_string

-- texts
abbrev pub spells_string_text : Text → Texts
spells_string_text = lossily spells_string

abbrev pub spells_quoted_text : Text → Texts
spells_quoted_text = lossily spells_quoted

abbrev pub spells_astring_text : Text → Texts
spells_astring_text = lossily spells_astring

abbrev pub spells_ntext : Option Text → Texts
spells_ntext = nil_or spells_string_text

abbrev pub spells_line_text : Text → Texts
spells_line_text = lossily (as_it_is (all_of is_text_char))

-- two numbers with a colon between
abbrev pub spells_ends : ℕ → ℕ → Texts
spells_ends a b = spells_number a and exactly ":" and spells_number b

-- a range by its ends; a single number is the range from it to it; no text spells a spent range
abbrev pub spells_range : Range → Texts
spells_range r c =
    (r.spent ≡ false)
    × (spells_ends r.start r.end c ⊎ ((r.start ≡ r.end) × spells_number r.start c))

abbrev pub spells_ranges : List Range → Texts
spells_ranges = some_with_between (exactly ",") spells_range
