-- Words that a line shows are told apart by their bytes, read from the left.
use Rattle.std.proofs.Common.{◌≡◌, ℕ, ◌<◌, ◌^◌, List, [], ◌∷◌, ◌++◌, map, drop, true, false, All, refl, ap, sym, subst, ◌∙◌, append_assoc, arith}
use Rattle.std.specs.Prelude.{decimal, codes, ◌==◌}
use Rattle.std.specs.List.{list_all, flat_map}
use Rattle.std.proofs.lemmas.Bool.Decides.{nat_tests}
use Rattle.std.proofs.lemmas.List.Elements.{All-nil, All-cons, All-head, All-tail}
use Rattle.imap_command.specs.Arguments.{quoted}
use Rattle.imap_command.specs.OtherWords.{is_word_byte, is_word, behind_space, bracketed}
use Rattle.imap_command.specs.OtherApart.{Item, plain, text, names, Shown, single, listed, announced}
use Rattle.imap_command.proofs.Runs.{both, front, beyond, front-append, beyond-append, is_digit, number, number-decimal, beyond-decimal, quoted_content, behind_quoted, quoted_content-quoted, behind_quoted-quoted}
use Rattle.imap_command.proofs.WordBytes.{word_bytes}

-- the text of what is shown
abbrev pub item_text : Item → List ℕ
item_text (plain bytes) = bytes
item_text (text content) = quoted content
item_text (names contents end) = bracketed (map quoted contents) ++ end

abbrev pub shown_text : Shown → List ℕ
shown_text (single item) = item_text item
shown_text (listed items) = bracketed (map item_text items)
shown_text (announced n) = codes "{" ++ (decimal n ++ codes "}")

-- what arguments show that are not refused
abbrev pub GoodItem : Item → Type 0
GoodItem (plain bytes) = is_word bytes ≡ true
GoodItem (text content) = Unit {0}
GoodItem (names contents end) = is_word end ≡ true

abbrev pub Good : Shown → Type 0
Good (single item) = GoodItem item
Good (listed items) = All GoodItem items
Good (announced n) = n < 2 ^ 64

abbrev first_byte : List ℕ → ℕ
first_byte [] = 0
first_byte (b ∷ rest) = b

-- a word begins with a byte of words, and a quoted string with a quote
word_begins : (c : ℕ) (word behind rest : List ℕ) → is_word_byte c ≡ false → is_word word ≡ true → word ++ behind ≡ c ∷ rest → ⊥
word_begins c [] behind rest stop good e = cc
word_begins c (b ∷ word) behind rest stop good e =
    let parts = both (is_word_byte b) (list_all is_word_byte word) good in
    let same : b ≡ c = ap first_byte e in
    let begins : is_word_byte c ≡ true = subst (λ x. is_word_byte x ≡ true) same parts.0 in
    cc

unlike_itself : (b : ℕ) → (b == b) ≡ false → ⊥
unlike_itself b h = grind (arith, nat_tests)

-- a text whose first byte is another
other_first : (b c : ℕ) (more rest : List ℕ) → (b == c) ≡ false → b ∷ more ≡ c ∷ rest → ⊥
other_first b c more rest other e =
    let same : b ≡ c = ap first_byte e in
    let differs : (b == b) ≡ false = subst (λ x. (b == x) ≡ false) (sym same) other in
    absurd (unlike_itself b differs)

not_begun : (c : ℕ) (item : Item) (behind rest : List ℕ) → is_word_byte c ≡ false → (34 == c) ≡ false → (40 == c) ≡ false → GoodItem item → item_text item ++ behind ≡ c ∷ rest → ⊥
not_begun c (plain bytes) behind rest stop no_quote no_bracket good e = word_begins c bytes behind rest stop good e
not_begun c (text content) behind rest stop no_quote no_bracket good e =
    other_first 34 c (drop 1 (quoted content ++ behind)) rest no_quote e
not_begun c (names contents end) behind rest stop no_quote no_bracket good e =
    other_first 40 c (drop 1 (item_text (names contents end) ++ behind)) rest no_bracket e

-- a text that begins with a byte that ends a word
abbrev pub Stops : List ℕ → Type 0
Stops behind = (b : ℕ) × (rest : List ℕ) × (behind ≡ b ∷ rest) × (is_word_byte b ≡ false)

front_word : (word behind : List ℕ) → is_word word ≡ true → Stops behind → front is_word_byte (word ++ behind) ≡ word
front_word word behind good stops =
    ap (λ t. front is_word_byte (word ++ t)) stops.2 ∙ front-append is_word_byte word stops.0 stops.1 (word_bytes word good) stops.3

beyond_word : (word behind : List ℕ) → is_word word ≡ true → Stops behind → beyond is_word_byte (word ++ behind) ≡ behind
beyond_word word behind good stops =
    ap (λ t. beyond is_word_byte (word ++ t)) stops.2 ∙ beyond-append is_word_byte word stops.0 stops.1 (word_bytes word good) stops.3 ∙ sym stops.2

-- Texts of one kind are told apart where a byte behind them ends a word, and none begins with `)`.
abbrev pub FrontsApart : {X : Type 0} → (X → List ℕ) → (X → Type 0) → Type 0
FrontsApart {X = X} text_of Fit =
    ((x y : X) (a b : List ℕ) → Fit x → Fit y → Stops a → Stops b → text_of x ++ a ≡ text_of y ++ b → (x ≡ y) × (a ≡ b))
    × ((x : X) (behind rest : List ℕ) → Fit x → text_of x ++ behind ≡ 41 ∷ rest → ⊥)

-- the others of a list, with its end and what follows
abbrev later : {X : Type 0} → (X → List ℕ) → List X → List ℕ → List ℕ
later text_of [] behind = 41 ∷ behind
later text_of (x ∷ xs) behind = 32 ∷ (text_of x ++ later text_of xs behind)

later_stops : {X : Type 0} (text_of : X → List ℕ) (xs : List X) (behind : List ℕ) → Stops (later text_of xs behind)
later_stops text_of [] behind = (41, behind, refl, refl)
later_stops text_of (x ∷ xs) behind = (32, text_of x ++ later text_of xs behind, refl, refl)

later_apart : {X : Type 0} (text_of : X → List ℕ) (Fit : X → Type 0) → FrontsApart text_of Fit → (xs ys : List X) (a b : List ℕ) → All Fit xs → All Fit ys → later text_of xs a ≡ later text_of ys b → (xs ≡ ys) × (a ≡ b)
later_apart text_of Fit told [] [] a b fit_xs fit_ys e = (refl, ap (drop 1) e)
later_apart text_of Fit told [] (y ∷ ys) a b fit_xs fit_ys e =
    let same : 41 ≡ 32 = ap first_byte e in absurd (omega (arith, same))
later_apart text_of Fit told (x ∷ xs) [] a b fit_xs fit_ys e =
    let same : 32 ≡ 41 = ap first_byte e in absurd (omega (arith, same))
later_apart text_of Fit told (x ∷ xs) (y ∷ ys) a b fit_xs fit_ys e =
    let first = told.0 x y (later text_of xs a) (later text_of ys b) (All-head Fit x xs fit_xs) (All-head Fit y ys fit_ys) (later_stops text_of xs a) (later_stops text_of ys b) (ap (drop 1) e) in
    let more = later_apart text_of Fit told xs ys a b (All-tail Fit x xs fit_xs) (All-tail Fit y ys fit_ys) first.1 in
    let same_first : x ≡ y = first.0 in
    let same_others : xs ≡ ys = more.0 in
    (cc, more.1)

-- a list behind its `(`, with what follows
abbrev inside_list : {X : Type 0} → (X → List ℕ) → List X → List ℕ → List ℕ
inside_list text_of [] behind = 41 ∷ behind
inside_list text_of (x ∷ xs) behind = text_of x ++ later text_of xs behind

later_written : {X : Type 0} (text_of : X → List ℕ) (xs : List X) (behind : List ℕ) → flat_map behind_space (map text_of xs) ++ (41 ∷ behind) ≡ later text_of xs behind
later_written text_of [] behind = refl
later_written text_of (x ∷ xs) behind =
    ap (λ l. 32 ∷ l)
    (append_assoc (text_of x) (flat_map behind_space (map text_of xs)) (41 ∷ behind)
    ∙ ap (λ l. text_of x ++ l) (later_written text_of xs behind))

list_written : {X : Type 0} (text_of : X → List ℕ) (xs : List X) (behind : List ℕ) → bracketed (map text_of xs) ++ behind ≡ 40 ∷ inside_list text_of xs behind
list_written text_of [] behind = refl
list_written text_of (x ∷ xs) behind =
    ap (λ l. 40 ∷ l)
    (append_assoc (text_of x ++ flat_map behind_space (map text_of xs)) (41 ∷ []) behind
    ∙ append_assoc (text_of x) (flat_map behind_space (map text_of xs)) (41 ∷ behind)
    ∙ ap (λ l. text_of x ++ l) (later_written text_of xs behind))

inside_apart : {X : Type 0} (text_of : X → List ℕ) (Fit : X → Type 0) → FrontsApart text_of Fit → (xs ys : List X) (a b : List ℕ) → All Fit xs → All Fit ys → inside_list text_of xs a ≡ inside_list text_of ys b → (xs ≡ ys) × (a ≡ b)
inside_apart text_of Fit told [] [] a b fit_xs fit_ys e = (refl, ap (drop 1) e)
inside_apart text_of Fit told [] (y ∷ ys) a b fit_xs fit_ys e =
    absurd (told.1 y (later text_of ys b) a (All-head Fit y ys fit_ys) (sym e))
inside_apart text_of Fit told (x ∷ xs) [] a b fit_xs fit_ys e =
    absurd (told.1 x (later text_of xs a) b (All-head Fit x xs fit_xs) e)
inside_apart text_of Fit told (x ∷ xs) (y ∷ ys) a b fit_xs fit_ys e =
    later_apart text_of Fit told (x ∷ xs) (y ∷ ys) a b fit_xs fit_ys (ap (λ l. 32 ∷ l) e)

listed_apart : {X : Type 0} (text_of : X → List ℕ) (Fit : X → Type 0) → FrontsApart text_of Fit → (xs ys : List X) (a b : List ℕ) → All Fit xs → All Fit ys → bracketed (map text_of xs) ++ a ≡ bracketed (map text_of ys) ++ b → (xs ≡ ys) × (a ≡ b)
listed_apart text_of Fit told xs ys a b fit_xs fit_ys e =
    inside_apart text_of Fit told xs ys a b fit_xs fit_ys (ap (drop 1) (sym (list_written text_of xs a) ∙ e ∙ list_written text_of ys b))

-- quoted strings
abbrev Any : List ℕ → Type 0
Any content = Unit {0}

all_any : (contents : List (List ℕ)) → All Any contents
all_any [] = All-nil Any
all_any (content ∷ contents) = All-cons Any content contents tt (all_any contents)

quoted_apart : FrontsApart quoted Any
quoted_apart = (
  λ x y a b any_x any_y stops_a stops_b e. (
    sym (quoted_content-quoted x a) ∙ ap quoted_content e ∙ quoted_content-quoted y b,
    sym (behind_quoted-quoted x a) ∙ ap behind_quoted e ∙ behind_quoted-quoted y b,
  ),
  λ x behind rest any_x e. other_first 34 41 (drop 1 (quoted x ++ behind)) rest refl e,
)

-- words, quoted strings, and lists of these with a word behind
word_apart : (x y a b : List ℕ) → is_word x ≡ true → is_word y ≡ true → Stops a → Stops b → x ++ a ≡ y ++ b → (x ≡ y) × (a ≡ b)
word_apart x y a b good_x good_y stops_a stops_b e = (
  sym (front_word x a good_x stops_a) ∙ ap (front is_word_byte) e ∙ front_word y b good_y stops_b,
  sym (beyond_word x a good_x stops_a) ∙ ap (beyond is_word_byte) e ∙ beyond_word y b good_y stops_b,
)

names_apart : (x y : List (List ℕ)) (end last a b : List ℕ) → is_word end ≡ true → is_word last ≡ true → Stops a → Stops b → item_text (names x end) ++ a ≡ item_text (names y last) ++ b → (names x end ≡ names y last) × (a ≡ b)
names_apart x y end last a b good_x good_y stops_a stops_b e =
    let found = listed_apart quoted Any quoted_apart x y (end ++ a) (last ++ b) (all_any x) (all_any y) (sym (append_assoc (bracketed (map quoted x)) end a) ∙ e ∙ append_assoc (bracketed (map quoted y)) last b) in
    let ends = word_apart end last a b good_x good_y stops_a stops_b found.1 in
    let same_names : x ≡ y = found.0 in
    let same_ends : end ≡ last = ends.0 in
    (cc, ends.1)

item_apart : (i j : Item) (a b : List ℕ) → GoodItem i → GoodItem j → Stops a → Stops b → item_text i ++ a ≡ item_text j ++ b → (i ≡ j) × (a ≡ b)
item_apart (plain x) (plain y) a b good_x good_y stops_a stops_b e =
    let found = word_apart x y a b good_x good_y stops_a stops_b e in (ap plain found.0, found.1)
item_apart (text x) (text y) a b good_x good_y stops_a stops_b e =
    let found = quoted_apart.0 x y a b good_x good_y stops_a stops_b e in (ap text found.0, found.1)
item_apart (names x end) (names y last) a b good_x good_y stops_a stops_b e =
    names_apart x y end last a b good_x good_y stops_a stops_b e
item_apart (plain x) (text y) a b good_x good_y stops_a stops_b e =
    absurd (word_begins 34 x a (drop 1 (quoted y ++ b)) refl good_x e)
item_apart (text x) (plain y) a b good_x good_y stops_a stops_b e =
    absurd (word_begins 34 y b (drop 1 (quoted x ++ a)) refl good_y (sym e))
item_apart (plain x) (names y last) a b good_x good_y stops_a stops_b e =
    absurd (word_begins 40 x a (drop 1 (item_text (names y last) ++ b)) refl good_x e)
item_apart (names x end) (plain y) a b good_x good_y stops_a stops_b e =
    absurd (word_begins 40 y b (drop 1 (item_text (names x end) ++ a)) refl good_y (sym e))
item_apart (text x) (names y last) a b good_x good_y stops_a stops_b e =
    absurd (other_first 34 40 (drop 1 (quoted x ++ a)) (drop 1 (item_text (names y last) ++ b)) refl e)
item_apart (names x end) (text y) a b good_x good_y stops_a stops_b e =
    absurd (other_first 34 40 (drop 1 (quoted y ++ b)) (drop 1 (item_text (names x end) ++ a)) refl (sym e))

items_apart : FrontsApart item_text GoodItem
items_apart = (
  item_apart,
  λ item behind rest good e. not_begun 41 item behind rest refl refl refl good e,
)

-- a list of quoted strings by itself, as items
pub items_of_strings : (contents : List (List ℕ)) → map item_text (map text contents) ≡ map quoted contents
items_of_strings [] = refl
items_of_strings (content ∷ contents) = ap (λ l. quoted content ∷ l) (items_of_strings contents)

pub good_strings : (contents : List (List ℕ)) → All GoodItem (map text contents)
good_strings [] = All-nil GoodItem
good_strings (content ∷ contents) =
    All-cons GoodItem (text content) (map text contents) tt (good_strings contents)

-- a list has a word right behind it, or none
item_not_listed : (item : Item) (items : List Item) (a b : List ℕ) → GoodItem item → All GoodItem items → Stops b → item_text item ++ a ≡ bracketed (map item_text items) ++ b → ⊥
item_not_listed (plain bytes) items a b good_item good_items stops_b e =
    word_begins 40 bytes a (drop 1 (bracketed (map item_text items) ++ b)) refl good_item e
item_not_listed (text content) items a b good_item good_items stops_b e =
    other_first 34 40 (drop 1 (quoted content ++ a)) (drop 1 (bracketed (map item_text items) ++ b)) refl e
item_not_listed (names contents end) items a b good_item good_items stops_b e =
    let texts : bracketed (map item_text (map text contents)) ++ (end ++ a) ≡ bracketed (map item_text items) ++ b =
    ap (λ t. bracketed t ++ (end ++ a)) (items_of_strings contents)
    ∙ sym (append_assoc (bracketed (map quoted contents)) end a) ∙ e in
    let found = listed_apart item_text GoodItem items_apart (map text contents) items (end ++ a) b (good_strings contents) good_items texts in
    word_begins stops_b.0 end a stops_b.1 stops_b.3 good_item (found.1 ∙ stops_b.2)

announced_apart : (n m : ℕ) (a b : List ℕ) → n < 2 ^ 64 → m < 2 ^ 64 → shown_text (announced n) ++ a ≡ shown_text (announced m) ++ b → (n ≡ m) × (a ≡ b)
announced_apart n m a b fits fits_too e =
    let same : decimal n ++ (125 ∷ a) ≡ decimal m ++ (125 ∷ b) =
    sym (append_assoc (decimal n) (125 ∷ []) a) ∙ ap (drop 1) e ∙ append_assoc (decimal m) (125 ∷ []) b in (
      sym (number-decimal n 125 a fits refl) ∙ ap number same ∙ number-decimal m 125 b fits_too refl,
      ap (drop 1) (sym (beyond-decimal n 125 a fits refl) ∙ ap (beyond is_digit) same ∙ beyond-decimal m 125 b fits_too refl),
    )

-- the word in front, and what follows
first_apart : (w v : Shown) (a b : List ℕ) → Good w → Good v → Stops a → Stops b → shown_text w ++ a ≡ shown_text v ++ b → (w ≡ v) × (a ≡ b)
first_apart (single i) (single j) a b good_w good_v stops_a stops_b e =
    let found = item_apart i j a b good_w good_v stops_a stops_b e in (ap single found.0, found.1)
first_apart (single i) (listed items) a b good_w good_v stops_a stops_b e =
    absurd (item_not_listed i items a b good_w good_v stops_b e)
first_apart (single i) (announced n) a b good_w good_v stops_a stops_b e =
    absurd (not_begun 123 i a (drop 1 (shown_text (announced n) ++ b)) refl refl refl good_w e)
first_apart (listed items) (single j) a b good_w good_v stops_a stops_b e =
    absurd (item_not_listed j items b a good_v good_w stops_a (sym e))
first_apart (listed items) (listed others) a b good_w good_v stops_a stops_b e =
    let found = listed_apart item_text GoodItem items_apart items others a b good_w good_v e in (ap listed found.0, found.1)
first_apart (listed items) (announced n) a b good_w good_v stops_a stops_b e =
    let same : 40 ≡ 123 = ap first_byte e in absurd (omega (arith, same))
first_apart (announced n) (single j) a b good_w good_v stops_a stops_b e =
    absurd (not_begun 123 j b (drop 1 (shown_text (announced n) ++ a)) refl refl refl good_v (sym e))
first_apart (announced n) (listed items) a b good_w good_v stops_a stops_b e =
    let same : 123 ≡ 40 = ap first_byte e in absurd (omega (arith, same))
first_apart (announced n) (announced m) a b good_w good_v stops_a stops_b e =
    let found = announced_apart n m a b good_w good_v e in (ap announced found.0, found.1)

-- words, the first first, each behind a space, and a space at the end
abbrev pub ending : List Shown → List ℕ
ending [] = 32 ∷ []
ending (w ∷ words) = 32 ∷ (shown_text w ++ ending words)

ending_stops : (words : List Shown) → Stops (ending words)
ending_stops [] = (32, [], refl, refl)
ending_stops (w ∷ words) = (32, shown_text w ++ ending words, refl, refl)

not_the_end : (bytes : List ℕ) (words : List Shown) → [] ≡ bytes ++ ending words → ⊥
not_the_end [] [] e = cc
not_the_end [] (w ∷ words) e = cc
not_the_end (b ∷ bytes) words e = cc

pub words_apart : (words others : List Shown) → All Good words → All Good others → ending words ≡ ending others → words ≡ others
words_apart [] [] good_words good_others e = refl
words_apart [] (v ∷ others) good_words good_others e = absurd (not_the_end (shown_text v) others (ap (drop 1) e))
words_apart (w ∷ words) [] good_words good_others e = absurd (not_the_end (shown_text w) words (sym (ap (drop 1) e)))
words_apart (w ∷ words) (v ∷ others) good_words good_others e =
    let first = first_apart w v (ending words) (ending others) (All-head Good w words good_words) (All-head Good v others good_others) (ending_stops words) (ending_stops others) (ap (drop 1) e) in
    let same_first : w ≡ v = first.0 in
    let same_others : words ≡ others = words_apart words others (All-tail Good w words good_words) (All-tail Good v others good_others) first.1 in
    cc
