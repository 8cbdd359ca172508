-- A command that has no builder of its own stays in its line, and announces a literal at the end alone.
use Rattle.std.proofs.Common.{◌≡◌, ◌≢◌, ℕ, List, [], ◌∷◌, ◌++◌, map, true, false, cond, Option, None, Some, All, refl, ap, ◌∙◌, append_assoc, append-nil, sym}
use Rattle.std.specs.Prelude.{decimal, codes, ◌==◌}
use Rattle.std.specs.List.{list_all, flat_map}
use Rattle.std.proofs.lemmas.List.Elements.{All-nil, All-cons, All-head, All-tail}
use Rattle.imap_command.specs.Arguments.{refusal, quoted, escaped_byte}
use Rattle.imap_command.specs.OtherWords.{is_word, is_name, behind_space, spaced, bracketed, word_refusal}
use Rattle.imap_command.specs.Sections.{Section, section_names, names_refusal, names_text, before_names, behind_names, section_refusal, section_text}
use Rattle.imap_command.specs.OtherCalls.{Argument, word, string, number, num, range, range_from, list, strings, section, literal, argument_text, separator, goes_on, Stage, arguments, numbers, announced, refused, after, stage, Open, Unrefused, begun}
use Rattle.imap_command.specs.OtherLine.{Sound, OtherOneLine, LiteralEndsLine, outside, inside, from_brace}
use Rattle.imap_command.proofs.OneLine.{refusal-append, refusal-escaped, refusal-decimal, option_or-none, all_stay}
use Rattle.imap_command.proofs.Runs.{both, opened}
use Rattle.imap_command.proofs.SectionWords.{before_word, behind_word, accepted_names}
use Rattle.imap_command.proofs.WordBytes.{unlike_byte, word_bytes, accepted_word, accepted_name, decimal_bytes, range_word, open_range_word, in_line, line_bytes, name_in_line, unrefused_in_line, all_accepted}

-- each argument that is not refused stays in line
plain_quoted : (text : List ℕ) → refusal text ≡ None → refusal (quoted text) ≡ None
plain_quoted text h = simp (refusal-append, option_or-none, refusal-escaped, h)

plain_word : (text : List ℕ) → is_word text ≡ true → refusal text ≡ None
plain_word text h = unrefused_in_line text (line_bytes text (word_bytes text h))

plain_others : (texts : List (List ℕ)) → All (λ text. refusal text ≡ None) texts → refusal (flat_map behind_space texts) ≡ None
plain_others [] h = refl
plain_others (text ∷ others) h =
    rw (refusal-append (behind_space text) (flat_map behind_space others), All-head (λ t. refusal t ≡ None) text others h)
    (plain_others others (All-tail (λ t. refusal t ≡ None) text others h))

plain_bracketed : (texts : List (List ℕ)) → All (λ text. refusal text ≡ None) texts → refusal (bracketed texts) ≡ None
plain_bracketed [] h = refl
plain_bracketed (first ∷ others) h =
    simp (refusal-append, All-head (λ t. refusal t ≡ None) first others h, plain_others others (All-tail (λ t. refusal t ≡ None) first others h))

plain_strings : (texts : List (List ℕ)) → All (λ text. refusal text ≡ None) texts → All (λ text. refusal text ≡ None) (map quoted texts)
plain_strings [] h = All-nil (λ t. refusal t ≡ None)
plain_strings (text ∷ others) h =
    All-cons (λ t. refusal t ≡ None) (quoted text) (map quoted others) (plain_quoted text (All-head (λ t. refusal t ≡ None) text others h))
    (plain_strings others (All-tail (λ t. refusal t ≡ None) text others h))

plain_names : (listed_names : Option (List (List ℕ))) → names_refusal listed_names ≡ None → refusal (names_text listed_names) ≡ None
plain_names None h = refl
plain_names (Some texts) h =
    plain_bracketed (map quoted texts) (plain_strings texts (all_accepted refusal (λ t. refusal t ≡ None) (λ t k. k) texts h))

plain-append : (a b : List ℕ) → refusal a ≡ None → refusal b ≡ None → refusal (a ++ b) ≡ None
plain-append a b h k = rw (refusal-append a b, h) k

plain_section : (asked : Section) → section_refusal asked ≡ None → refusal (section_text asked) ≡ None
plain_section asked h =
    plain-append (before_names asked) (names_text (section_names asked.text) ++ behind_names asked) (plain_word (before_names asked) (before_word asked))
    (plain-append (names_text (section_names asked.text)) (behind_names asked) (plain_names (section_names asked.text) (accepted_names asked h))
    (plain_word (behind_names asked) (behind_word asked)))

plain_argument : (argument : Argument) → Unrefused argument → refusal (argument_text argument) ≡ None
plain_argument (word text) h = plain_word text (accepted_word text h)
plain_argument (string text) h = plain_quoted text h
plain_argument (number n) h = refusal-decimal n
plain_argument (num n) h = refusal-decimal n
plain_argument (range first last) h = plain_word (decimal first ++ (codes ":" ++ decimal last)) (range_word first last)
plain_argument (range_from first) h = plain_word (decimal first ++ codes ":*") (open_range_word first)
plain_argument (list words) h =
    plain_bracketed words (all_accepted word_refusal (λ t. refusal t ≡ None) (λ t k. plain_word t (accepted_word t k)) words h)
plain_argument (strings texts) h =
    plain_bracketed (map quoted texts) (plain_strings texts (all_accepted refusal (λ t. refusal t ≡ None) (λ t k. k) texts h))
plain_argument (section asked) h = plain_section asked h
plain_argument (literal n) h = simp (refusal-append, refusal-decimal)

plain_separator : (s : Stage) (argument : Argument) → refusal (separator s argument) ≡ None
plain_separator s argument =
    elim (goes_on s argument) as (λ v. refusal (cond v (codes ",") (codes " ")) ≡ None) [ true ↦ refl | false ↦ refl ]

plain_begun : (name : List ℕ) (given : List Argument) → is_name name ≡ true → All Unrefused given → refusal (begun name given) ≡ None
plain_begun name [] h k = unrefused_in_line name (name_in_line name h)
plain_begun name (argument ∷ before) h k =
    simp (refusal-append, plain_begun name before h (All-tail Unrefused argument before k), plain_separator (stage before) argument, plain_argument argument (All-head Unrefused argument before k))

pub one_line : OtherOneLine
one_line name given sound = all_stay _ (plain_begun name given (accepted_name name sound.name_accepted) sound.accepted)

-- a text in which a reader outside quoted strings finds no `{`, and is outside of them behind it
abbrev Passed : List ℕ → Type 0
Passed text = (rest : List ℕ) → from_brace outside (text ++ rest) ≡ from_brace outside rest

passed-append : (a b : List ℕ) → Passed a → Passed b → Passed (a ++ b)
passed-append a b h k rest = ap (from_brace outside) (append_assoc a b rest) ∙ h (b ++ rest) ∙ k rest

passed_in_line : (text : List ℕ) → list_all in_line text ≡ true → Passed text
passed_in_line [] h rest = refl
passed_in_line (b ∷ text) h rest =
    let parts = both (in_line b) (list_all in_line text) h in
    rw (unlike_byte in_line 34 b refl parts.0, unlike_byte in_line 123 b refl parts.0) (passed_in_line text parts.1 rest)

passed_word : (text : List ℕ) → is_word text ≡ true → Passed text
passed_word text h = passed_in_line text (line_bytes text (word_bytes text h))

inside_step : (b : ℕ) (more : List ℕ) → from_brace inside (escaped_byte b ++ more) ≡ from_brace inside more
inside_step b more =
    elim (b == 34) as (λ v. (b == 34) ≡ v → from_brace inside (escaped_byte b ++ more) ≡ from_brace inside more) [
      | true ↦ λ quote. simp quote refl
      | false ↦ λ plain. elim (b == 92) as (λ v. (b == 92) ≡ v → from_brace inside (escaped_byte b ++ more) ≡ from_brace inside more) [
        | true ↦ λ backslash. simp (plain, backslash) refl
        | false ↦ λ other. simp (plain, other) refl
      ] refl
    ] refl

inside_escaped : (text rest : List ℕ) → from_brace inside (flat_map escaped_byte text ++ (34 ∷ rest)) ≡ from_brace outside rest
inside_escaped [] rest = refl
inside_escaped (b ∷ text) rest =
    ap (from_brace inside) (append_assoc (escaped_byte b) (flat_map escaped_byte text) (34 ∷ rest))
    ∙ inside_step b (flat_map escaped_byte text ++ (34 ∷ rest))
    ∙ inside_escaped text rest

passed_quoted : (text : List ℕ) → Passed (quoted text)
passed_quoted text rest = ap (from_brace outside) (opened text rest) ∙ inside_escaped text rest

passed_others : (texts : List (List ℕ)) → All Passed texts → Passed (flat_map behind_space texts)
passed_others [] h = λ rest. refl
passed_others (text ∷ others) h =
    passed-append (behind_space text) (flat_map behind_space others) (λ rest. All-head Passed text others h rest)
    (passed_others others (All-tail Passed text others h))

passed_spaced : (texts : List (List ℕ)) → All Passed texts → Passed (spaced texts)
passed_spaced [] h = λ rest. refl
passed_spaced (first ∷ others) h =
    passed-append first (flat_map behind_space others) (All-head Passed first others h) (passed_others others (All-tail Passed first others h))

passed_bracketed : (texts : List (List ℕ)) → All Passed texts → Passed (bracketed texts)
passed_bracketed texts h rest = passed-append (spaced texts) (codes ")") (passed_spaced texts h) (λ more. refl) rest

passed_strings : (texts : List (List ℕ)) → All Passed (map quoted texts)
passed_strings [] = All-nil Passed
passed_strings (text ∷ others) = All-cons Passed (quoted text) (map quoted others) (passed_quoted text) (passed_strings others)

passed_names : (listed_names : Option (List (List ℕ))) → Passed (names_text listed_names)
passed_names None = λ rest. refl
passed_names (Some texts) = λ rest. passed_bracketed (map quoted texts) (passed_strings texts) rest

passed_section : (asked : Section) → Passed (section_text asked)
passed_section asked =
    passed-append (before_names asked) (names_text (section_names asked.text) ++ behind_names asked) (passed_word (before_names asked) (before_word asked))
    (passed-append (names_text (section_names asked.text)) (behind_names asked) (passed_names (section_names asked.text))
    (passed_word (behind_names asked) (behind_word asked)))

passed_separator : (s : Stage) (argument : Argument) → Passed (separator s argument)
passed_separator s argument rest =
    elim (goes_on s argument) as (λ v. from_brace outside (cond v (codes ",") (codes " ") ++ rest) ≡ from_brace outside rest) [ true ↦ refl | false ↦ refl ]

-- a literal leaves no state to which arguments are added
not_open : (s : Stage) (n : ℕ) → Open (after s (literal n)) → ⊥
not_open arguments n h = h
not_open numbers n h = h
not_open announced n h = h
not_open refused n h = h

passed_argument : (argument : Argument) (s : Stage) → Unrefused argument → Open (after s argument) → Passed (argument_text argument)
passed_argument (word text) s h o = passed_word text (accepted_word text h)
passed_argument (string text) s h o = passed_quoted text
passed_argument (number n) s h o = passed_in_line (decimal n) (line_bytes (decimal n) (decimal_bytes n))
passed_argument (num n) s h o = passed_in_line (decimal n) (line_bytes (decimal n) (decimal_bytes n))
passed_argument (range first last) s h o = passed_word (decimal first ++ (codes ":" ++ decimal last)) (range_word first last)
passed_argument (range_from first) s h o = passed_word (decimal first ++ codes ":*") (open_range_word first)
passed_argument (list words) s h o =
    passed_bracketed words (all_accepted word_refusal Passed (λ t k. passed_word t (accepted_word t k)) words h)
passed_argument (strings texts) s h o = passed_bracketed (map quoted texts) (passed_strings texts)
passed_argument (section asked) s h o = passed_section asked
passed_argument (literal n) s h o = absurd (not_open s n o)

open_before : (s : Stage) (argument : Argument) → after s argument ≢ refused → Open s
open_before arguments argument h = tt
open_before numbers argument h = tt
open_before announced argument h = h refl
open_before refused argument h = h refl

open_not_refused : (s : Stage) → Open s → s ≢ refused
open_not_refused arguments h = λ e. cc
open_not_refused numbers h = λ e. cc
open_not_refused announced h = absurd h
open_not_refused refused h = absurd h

passed_begun : (name : List ℕ) (given : List Argument) → is_name name ≡ true → All Unrefused given → Open (stage given) → Passed (begun name given)
passed_begun name [] h k o = passed_in_line name (name_in_line name h)
passed_begun name (argument ∷ before) h k o =
    let open_then : Open (stage before) = open_before (stage before) argument (open_not_refused (after (stage before) argument) o) in
    passed-append (begun name before) (separator (stage before) argument ++ argument_text argument)
    (passed_begun name before h (All-tail Unrefused argument before k) open_then)
    (passed-append (separator (stage before) argument) (argument_text argument) (passed_separator (stage before) argument)
    (passed_argument argument (stage before) (All-head Unrefused argument before k) o))

-- without a literal nothing is found
nothing_found : (text : List ℕ) → Passed text → from_brace outside text ≡ []
nothing_found text h = ap (from_brace outside) (sym (append-nil text)) ∙ h []

literal_found : (name : List ℕ) (n : ℕ) (s : Stage) (begins : List ℕ) → Passed begins → from_brace outside (begins ++ (separator s (literal n) ++ argument_text (literal n))) ≡ argument_text (literal n)
literal_found name n s begins h =
    h (separator s (literal n) ++ argument_text (literal n)) ∙ passed_separator s (literal n) (argument_text (literal n))

-- what a call that is no literal leads to
open_after : (s : Stage) (argument : Argument) → ((n : ℕ) → argument ≢ literal n) → after s argument ≢ refused → Open (after s argument)
open_after announced argument other h = h refl
open_after refused argument other h = h refl
open_after arguments (literal n) other h = absurd (other n refl)
open_after numbers (literal n) other h = absurd (other n refl)
open_after s argument other h = tt

found_of_others : (name : List ℕ) (argument : Argument) (before : List Argument) → ((n : ℕ) → argument ≢ literal n) → Sound name (argument ∷ before) → from_brace outside (begun name (argument ∷ before)) ≡ []
found_of_others name argument before other sound =
    nothing_found (begun name (argument ∷ before))
    (passed_begun name (argument ∷ before) (accepted_name name sound.name_accepted) sound.accepted (open_after (stage before) argument other sound.in_order))

pub literal_ends_line : LiteralEndsLine
literal_ends_line name [] sound = nothing_found name (passed_begun name [] (accepted_name name sound.name_accepted) (All-nil Unrefused) tt)
literal_ends_line name (literal n ∷ before) sound =
    literal_found name n (stage before) (begun name before)
    (passed_begun name before (accepted_name name sound.name_accepted) (All-tail Unrefused (literal n) before sound.accepted) (open_before (stage before) (literal n) sound.in_order))
literal_ends_line name (argument ∷ before) sound = found_of_others name argument before (λ n e. cc) sound
