-- What the calls of a command that has no builder of its own show, and the command's text.
use Rattle.std.proofs.Common.{◌≡◌, ℕ, List, [], ◌∷◌, ◌++◌, map, reverse, drop, true, false, cond, Option, None, Some, All, refl, ap, sym, subst, ◌∙◌, append_assoc, append-nil, arith}
use Rattle.std.specs.Prelude.{decimal, codes, ◌==◌}
use Rattle.std.specs.List.{list_all}
use Rattle.std.proofs.lemmas.Bool.{eqb-true}
use Rattle.std.proofs.lemmas.Grind.{reverse_onto}
use Rattle.std.proofs.lemmas.List.{reverse-reverse}
use Rattle.std.proofs.lemmas.List.Elements.{All-nil, All-cons, All-head, All-tail, All-append}
use Rattle.imap_command.specs.Arguments.{quoted}
use Rattle.imap_command.specs.OtherWords.{is_word_byte, is_word, is_name, is_name_word, before_first, between_spaces, bracketed, word_refusal}
use Rattle.imap_command.specs.OtherCalls.{Argument, word, string, number, num, range, range_from, list, strings, section, literal, InRange, Unrefused, argument_text, separator, goes_on, Stage, arguments, numbers, after, stage, begun}
use Rattle.imap_command.specs.OtherLine.{Sound}
use Rattle.imap_command.specs.Sections.{Section, section_names, names_text, before_names, behind_names}
use Rattle.imap_command.specs.OtherApart.{Item, plain, text, names, Shown, single, listed, plain_word, section_shown, argument_shown, with_member, and_argument, shown, WordsToldApart}
use Rattle.imap_command.specs.OtherApart as shows
use Rattle.imap_command.proofs.Runs.{both}
use Rattle.imap_command.proofs.SectionWords.{before_word, behind_word}
use Rattle.imap_command.proofs.ShownApart.{item_text, shown_text, GoodItem, Good, items_of_strings, good_strings, ending, words_apart}
use Rattle.imap_command.proofs.WordBytes.{word-append, accepted_word, accepted_name, decimal_word, decimal_bytes, range_word, open_range_word, name_word, word_bytes, all_accepted}

-- words, the last first, each behind a space
abbrev led : List Shown → List ℕ
led [] = []
led (w ∷ before) = led before ++ (32 ∷ shown_text w)

-- words, the first first, each behind a space
abbrev lead : List Shown → List ℕ
lead [] = []
lead (w ∷ later) = 32 ∷ (shown_text w ++ lead later)

turned : (w : Shown) (words : List Shown) → reverse (w ∷ words) ≡ reverse words ++ (w ∷ [])
turned w words = reverse_onto words w []

turned_onto : (w : Shown) (words later : List Shown) → reverse (w ∷ words) ++ later ≡ reverse words ++ (w ∷ later)
turned_onto w words later = ap (λ l. l ++ later) (turned w words) ∙ append_assoc (reverse words) (w ∷ []) later

led_ended : (words later : List Shown) → led words ++ ending later ≡ ending (reverse words ++ later)
led_ended [] later = refl
led_ended (w ∷ words) later =
    append_assoc (led words) (32 ∷ shown_text w) (ending later)
    ∙ led_ended words (w ∷ later)
    ∙ ap ending (sym (turned_onto w words later))

led_reversed : (words before : List Shown) → led (reverse words ++ before) ≡ led before ++ lead words
led_reversed [] before = sym (append-nil (led before))
led_reversed (w ∷ words) before =
    ap led (turned_onto w words before)
    ∙ led_reversed words (w ∷ before)
    ∙ append_assoc (led before) (32 ∷ shown_text w) (lead words)

-- the words of a name
lead_before_first : (b : ℕ) (texts : List (List ℕ)) (rest : List ℕ) → lead (map plain_word texts) ≡ 32 ∷ rest → lead (map plain_word (before_first b texts)) ≡ 32 ∷ (b ∷ rest)
lead_before_first b [] rest e = cc
lead_before_first b (first ∷ others) rest e = ap (λ l. 32 ∷ b ∷ l) (ap (drop 1) e)

lead_name : (name : List ℕ) → lead (map plain_word (between_spaces name)) ≡ 32 ∷ name
lead_name [] = refl
lead_name (b ∷ rest) =
    elim (b == 32) as (λ v. (b == 32) ≡ v → lead (map plain_word (cond v ([] ∷ between_spaces rest) (before_first b (between_spaces rest)))) ≡ 32 ∷ (b ∷ rest)) [
      | true ↦ λ space. ap (λ l. 32 ∷ l) (lead_name rest) ∙ ap (λ x. 32 ∷ x ∷ rest) (sym (eqb-true b 32 space))
      | false ↦ λ other. lead_before_first b (between_spaces rest) rest (lead_name rest)
    ] refl

-- where a set is open, the last word is one without quotes
abbrev LastPlain : Stage → List Shown → Type 0
LastPlain numbers (single (plain bytes) ∷ before) = Unit {0}
LastPlain numbers words = ⊥
LastPlain state words = Unit {0}

last_plain_after : (s : Stage) (argument : Argument) (words : List Shown) → LastPlain s words → LastPlain (after s argument) (and_argument (goes_on s argument) argument words)
last_plain_after numbers (num n) (single (plain bytes) ∷ before) h = tt
last_plain_after numbers (range first last) (single (plain bytes) ∷ before) h = tt
last_plain_after numbers (range_from first) (single (plain bytes) ∷ before) h = tt
last_plain_after numbers (num n) words h = absurd h
last_plain_after numbers (range first last) words h = absurd h
last_plain_after numbers (range_from first) words h = absurd h
last_plain_after arguments (num n) words h = tt
last_plain_after arguments (range first last) words h = tt
last_plain_after arguments (range_from first) words h = tt
last_plain_after s argument words h = tt

last_plain : (name : List ℕ) (given : List Argument) → LastPlain (stage given) (shown name given)
last_plain name [] = tt
last_plain name (argument ∷ before) = last_plain_after (stage before) argument (shown name before) (last_plain name before)

-- the text of what an argument shows
items_of_words : (words : List (List ℕ)) → map item_text (map plain words) ≡ words
items_of_words [] = refl
items_of_words (w ∷ words) = ap (λ l. w ∷ l) (items_of_words words)

-- what an argument shows is behind the words before it, each behind a space
led_section : (asked : Section) (listed_names : Option (List (List ℕ))) (words : List Shown) → led (section_shown asked listed_names ++ words) ≡ led words ++ (32 ∷ (before_names asked ++ (names_text listed_names ++ behind_names asked)))
led_section asked None words = refl
led_section asked (Some listed_names) words =
    append_assoc (led words) (32 ∷ before_names asked) (32 ∷ (bracketed (map quoted listed_names) ++ behind_names asked))

led_argument : (argument : Argument) (words : List Shown) → led (argument_shown argument ++ words) ≡ led words ++ (32 ∷ argument_text argument)
led_argument (list listed_words) words = ap (λ t. led words ++ (32 ∷ bracketed t)) (items_of_words listed_words)
led_argument (strings texts) words = ap (λ t. led words ++ (32 ∷ bracketed t)) (items_of_strings texts)
led_argument (section asked) words = led_section asked (section_names asked.text) words
led_argument argument words = refl

led_after : (s : Stage) (argument : Argument) (words : List Shown) → LastPlain s words → led (and_argument (goes_on s argument) argument words) ≡ led words ++ (separator s argument ++ argument_text argument)
led_after numbers (num n) (single (plain bytes) ∷ before) h =
    sym (append_assoc (led before) (32 ∷ bytes) (44 ∷ decimal n))
led_after numbers (range first last) (single (plain bytes) ∷ before) h =
    sym (append_assoc (led before) (32 ∷ bytes) (44 ∷ argument_text (range first last)))
led_after numbers (range_from first) (single (plain bytes) ∷ before) h =
    sym (append_assoc (led before) (32 ∷ bytes) (44 ∷ argument_text (range_from first)))
led_after numbers (num n) words h = absurd h
led_after numbers (range first last) words h = absurd h
led_after numbers (range_from first) words h = absurd h
led_after s argument words h = led_argument argument words

led_shown : (name : List ℕ) (given : List Argument) → led (shown name given) ≡ 32 ∷ begun name given
led_shown name [] =
    ap led (sym (append-nil (reverse (map plain_word (between_spaces name)))))
    ∙ led_reversed (map plain_word (between_spaces name)) []
    ∙ lead_name name
led_shown name (argument ∷ before) =
    led_after (stage before) argument (shown name before) (last_plain name before)
    ∙ ap (λ t. t ++ (separator (stage before) argument ++ argument_text argument)) (led_shown name before)

-- what is shown can be told apart
good_reversed : (words : List Shown) → All Good words → All Good (reverse words)
good_reversed [] h = h
good_reversed (w ∷ words) h =
    subst (All Good) (sym (turned w words))
    (All-append Good (reverse words) (w ∷ []) (good_reversed words (All-tail Good w words h)) (All-cons Good w [] (All-head Good w words h) (All-nil Good)))

one : (w : Shown) → Good w → All Good (w ∷ [])
one w h = All-cons Good w [] h (All-nil Good)

good_name : (texts : List (List ℕ)) → list_all is_name_word texts ≡ true → All Good (map plain_word texts)
good_name [] h = All-nil Good
good_name (t ∷ texts) h =
    let parts = both (is_name_word t) (list_all is_name_word texts) h in
    All-cons Good (plain_word t) (map plain_word texts) (name_word t parts.0) (good_name texts parts.1)

good_words : (words : List (List ℕ)) → All (λ w. is_word w ≡ true) words → All GoodItem (map plain words)
good_words [] h = All-nil GoodItem
good_words (w ∷ words) h =
    All-cons GoodItem (plain w) (map plain words) (All-head (λ t. is_word t ≡ true) w words h) (good_words words (All-tail (λ t. is_word t ≡ true) w words h))

good_section : (asked : Section) (listed_names : Option (List (List ℕ))) → All Good (section_shown asked listed_names)
good_section asked None =
    one (plain_word (before_names asked ++ behind_names asked)) (word-append (before_names asked) (behind_names asked) (before_word asked) (word_bytes (behind_names asked) (behind_word asked)))
good_section asked (Some listed_names) =
    All-cons Good (single (names listed_names (behind_names asked))) (plain_word (before_names asked) ∷ []) (behind_word asked)
    (one (plain_word (before_names asked)) (before_word asked))

good_argument : (argument : Argument) → Unrefused argument → InRange argument → All Good (argument_shown argument)
good_argument (word bytes) h fits = one (plain_word bytes) (accepted_word bytes h)
good_argument (string content) h fits = one (single (text content)) tt
good_argument (number n) h fits = one (plain_word (decimal n)) (decimal_word n)
good_argument (num n) h fits = one (plain_word (decimal n)) (decimal_word n)
good_argument (range first last) h fits = one (plain_word (argument_text (range first last))) (range_word first last)
good_argument (range_from first) h fits = one (plain_word (argument_text (range_from first))) (open_range_word first)
good_argument (list words) h fits =
    one (listed (map plain words)) (good_words words (all_accepted word_refusal (λ t. is_word t ≡ true) accepted_word words h))
good_argument (strings texts) h fits = one (listed (map text texts)) (good_strings texts)
good_argument (section asked) h fits = good_section asked (section_names asked.text)
good_argument (literal n) h fits = one (shows.announced n) (omega (arith, fits))

good_member : (member : List ℕ) (w : Shown) → list_all is_word_byte member ≡ true → Good w → Good (with_member member w)
good_member member (single (plain bytes)) h good = word-append bytes (44 ∷ member) good h
good_member member (single (text content)) h good = good
good_member member (single (names contents end)) h good = good
good_member member (listed items) h good = good
good_member member (shows.announced n) h good = good

good_after : (s : Stage) (argument : Argument) (words : List Shown) → Unrefused argument → InRange argument → All Good words → All Good (and_argument (goes_on s argument) argument words)
good_after numbers (num n) [] h fits good = All-nil Good
good_after numbers (range first last) [] h fits good = All-nil Good
good_after numbers (range_from first) [] h fits good = All-nil Good
good_after numbers (num n) (w ∷ before) h fits good =
    All-cons Good (with_member (decimal n) w) before (good_member (decimal n) w (decimal_bytes n) (All-head Good w before good)) (All-tail Good w before good)
good_after numbers (range first last) (w ∷ before) h fits good =
    let member : List ℕ = decimal first ++ (codes ":" ++ decimal last) in
    All-cons Good (with_member member w) before (good_member member w (word_bytes member (range_word first last)) (All-head Good w before good)) (All-tail Good w before good)
good_after numbers (range_from first) (w ∷ before) h fits good =
    let member : List ℕ = decimal first ++ codes ":*" in
    All-cons Good (with_member member w) before (good_member member w (word_bytes member (open_range_word first)) (All-head Good w before good)) (All-tail Good w before good)
good_after s argument words h fits good =
    All-append Good (argument_shown argument) words (good_argument argument h fits) good

good_shown : (name : List ℕ) (given : List Argument) → is_name name ≡ true → All Unrefused given → All InRange given → All Good (shown name given)
good_shown name [] h k fits =
    good_reversed (map plain_word (between_spaces name)) (good_name (between_spaces name) h)
good_shown name (argument ∷ before) h k fits =
    good_after (stage before) argument (shown name before) (All-head Unrefused argument before k) (All-head InRange argument before fits)
    (good_shown name before h (All-tail Unrefused argument before k) (All-tail InRange argument before fits))

good_in_order : (name : List ℕ) (given : List Argument) → Sound name given → All Good (reverse (shown name given))
good_in_order name given sound =
    good_reversed (shown name given) (good_shown name given (accepted_name name sound.name_accepted) sound.accepted sound.in_range)

ended_text : (name : List ℕ) (given : List Argument) → ending (reverse (shown name given)) ≡ 32 ∷ (begun name given ++ (32 ∷ []))
ended_text name given =
    ap ending (sym (append-nil (reverse (shown name given))))
    ∙ sym (led_ended (shown name given) [])
    ∙ ap (λ t. t ++ (32 ∷ [])) (led_shown name given)

pub words_told_apart : WordsToldApart
words_told_apart name other_name given others sound sound_too e =
    let texts : ending (reverse (shown name given)) ≡ ending (reverse (shown other_name others)) =
    ended_text name given ∙ ap (λ t. 32 ∷ (t ++ (32 ∷ []))) e ∙ sym (ended_text other_name others) in
    let same : reverse (shown name given) ≡ reverse (shown other_name others) =
    words_apart (reverse (shown name given)) (reverse (shown other_name others)) (good_in_order name given sound) (good_in_order other_name others sound_too) texts in
    sym (reverse-reverse (shown name given)) ∙ ap reverse same ∙ reverse-reverse (shown other_name others)
