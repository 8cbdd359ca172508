-- Bytes of words, of names and of numbers, and what they are not.
use Rattle.std.proofs.Common.{◌≡◌, ℕ, ◌<◌, ◌/◌, ◌%◌, zero, suc, List, [], ◌∷◌, ◌++◌, Bool, true, false, cond, Option, None, Some, All, refl, sym, subst, ◌∙◌, arith}
use Rattle.std.specs.Prelude.{decimal, codes, ◌==◌, ◌||◌}
use Rattle.std.specs.List.{list_all}
use Rattle.std.specs.Fmt.{digits, digits_onto, digit_glyph}
use Rattle.std.proofs.lemmas.Bool.{eqb-true}
use Rattle.std.proofs.lemmas.Bool.Decides.{nat_tests}
use Rattle.std.proofs.lemmas.List.Elements.{All-nil, All-cons}
use Rattle.std.proofs.lemmas.List.Folds.{list_all-append}
use Rattle.imap_command.specs.Arguments.{refusal}
use Rattle.imap_command.specs.OtherWords.{is_word_byte, is_word, is_name_byte, is_name_word, is_name, between_spaces, word_refusal, name_refusal, first_refusal}
use Rattle.imap_command.specs.declared.errors.BuildError.{BuildError}
use Rattle.imap_command.specs.declared.errors.BuildError.TheVariants.{BadName, BadWord}
use Rattle.imap_command.proofs.Names.{goes_on, begun-byte}
use Rattle.imap_command.proofs.OneLine.{both_none}
use Rattle.imap_command.proofs.Runs.{both}

-- a byte of one kind is no byte of another
pub unlike_byte : (p : ℕ → Bool) (c b : ℕ) → p c ≡ false → p b ≡ true → (b == c) ≡ false
unlike_byte p c b h k =
    elim (b == c) as (λ v. (b == c) ≡ v → v ≡ false) [
      | true ↦ λ same. let t : p c ≡ true = subst (λ x. p x ≡ true) (eqb-true b c same) k in cc
      | false ↦ λ other. refl
    ] refl

-- words
pub word_bytes : (w : List ℕ) → is_word w ≡ true → list_all is_word_byte w ≡ true
word_bytes [] h = refl
word_bytes (b ∷ w) h = h

pub word-append : (a b : List ℕ) → is_word a ≡ true → list_all is_word_byte b ≡ true → is_word (a ++ b) ≡ true
word-append [] b h k = cc
word-append (x ∷ a) b h k = rw (list_all-append is_word_byte (x ∷ a) b, h) k

pub bytes-append : (a b : List ℕ) → list_all is_word_byte a ≡ true → list_all is_word_byte b ≡ true → list_all is_word_byte (a ++ b) ≡ true
bytes-append a b h k = rw (list_all-append is_word_byte a b, h) k

pub accepted_word : (w : List ℕ) → word_refusal w ≡ None → is_word w ≡ true
accepted_word w h =
    elim (is_word w) as (λ v. cond v None (Some BadWord) ≡ None → v ≡ true) [
      | true ↦ λ accepted. refl
      | false ↦ λ accepted. cc
    ] h

-- numbers
glyph_word : (d : ℕ) → d < 10 → is_word_byte (digit_glyph false d) ≡ true
glyph_word d h = grind (arith, nat_tests)

digits_onto_word : (k n b : ℕ) (text : List ℕ) → list_all is_word_byte (b ∷ text) ≡ true → is_word (digits_onto k 10 false n (b ∷ text)) ≡ true
digits_onto_word zero n b text h = h
digits_onto_word (suc k) n b text h =
    let glyph : ℕ = digit_glyph false (n % 10) in
    let more : list_all is_word_byte (glyph ∷ b ∷ text) ≡ true = rw (glyph_word (n % 10) (omega arith)) h in
    elim (n / 10 == 0) as (λ v. is_word (cond v (glyph ∷ b ∷ text) (digits_onto k 10 false (n / 10) (glyph ∷ b ∷ text))) ≡ true) [
      | true ↦ more
      | false ↦ digits_onto_word k (n / 10) glyph (b ∷ text) more
    ]

digits_word : (k n : ℕ) → is_word (digits_onto (suc k) 10 false n []) ≡ true
digits_word k n =
    let glyph : ℕ = digit_glyph false (n % 10) in
    let more : list_all is_word_byte (glyph ∷ []) ≡ true = rw (glyph_word (n % 10) (omega arith)) refl in
    elim (n / 10 == 0) as (λ v. is_word (cond v (glyph ∷ []) (digits_onto k 10 false (n / 10) (glyph ∷ []))) ≡ true) [
      | true ↦ more
      | false ↦ digits_onto_word k (n / 10) glyph [] more
    ]

pub decimal_word : (n : ℕ) → is_word (decimal n) ≡ true
unfolding digits
decimal_word n = digits_word 63 n

pub decimal_bytes : (n : ℕ) → list_all is_word_byte (decimal n) ≡ true
decimal_bytes n = word_bytes (decimal n) (decimal_word n)

pub range_word : (first last : ℕ) → is_word (decimal first ++ (codes ":" ++ decimal last)) ≡ true
range_word first last = word-append (decimal first) (codes ":" ++ decimal last) (decimal_word first) (decimal_bytes last)

pub open_range_word : (first : ℕ) → is_word (decimal first ++ codes ":*") ≡ true
open_range_word first = word-append (decimal first) (codes ":*") (decimal_word first) refl

-- names
name_byte : (b : ℕ) → is_name_byte b ≡ true → is_word_byte b ≡ true
name_byte b h = grind (arith, nat_tests)

name_bytes : (w : List ℕ) → list_all is_name_byte w ≡ true → list_all is_word_byte w ≡ true
name_bytes [] h = refl
name_bytes (b ∷ w) h =
    let parts = both (is_name_byte b) (list_all is_name_byte w) h in
    rw (name_byte b parts.0) (name_bytes w parts.1)

pub name_word : (w : List ℕ) → is_name_word w ≡ true → is_word w ≡ true
name_word [] h = h
name_word (b ∷ w) h = name_bytes (b ∷ w) h

pub accepted_name : (name : List ℕ) → name_refusal name ≡ None → is_name name ≡ true
accepted_name name h =
    elim (is_name name) as (λ v. cond v None (Some BadName) ≡ None → v ≡ true) [
      | true ↦ λ accepted. refl
      | false ↦ λ accepted. cc
    ] h

-- a byte of a word, or a space
abbrev pub in_line : ℕ → Bool
in_line b = (b == 32) || is_word_byte b

pub line_bytes : (w : List ℕ) → list_all is_word_byte w ≡ true → list_all in_line w ≡ true
line_bytes [] h = refl
line_bytes (b ∷ w) h =
    let parts = both (is_word_byte b) (list_all is_word_byte w) h in
    rw (unlike_byte is_word_byte 32 b refl parts.0, parts.0) (line_bytes w parts.1)

begins_or_goes_on : (texts : List (List ℕ)) → list_all is_name_word texts ≡ true → goes_on texts ≡ true
begins_or_goes_on [] h = refl
begins_or_goes_on ([] ∷ others) h = cc
begins_or_goes_on ((b ∷ first) ∷ others) h = h

begun_in_line : (name : List ℕ) → goes_on (between_spaces name) ≡ true → list_all in_line name ≡ true
begun_in_line [] h = refl
begun_in_line (b ∷ rest) h =
    elim (b == 32) as (λ v. (b == 32) ≡ v → list_all in_line (b ∷ rest) ≡ true) [
      | true ↦ λ space.
          let later : is_name rest ≡ true = rw space at h in
          rw space (begun_in_line rest (begins_or_goes_on (between_spaces rest) later))
      | false ↦ λ other.
          let parts = both (is_name_byte b) (goes_on (between_spaces rest)) (sym (begun-byte b rest other) ∙ h) in
          rw (other, name_byte b parts.0) (begun_in_line rest parts.1)
    ] refl

pub name_in_line : (name : List ℕ) → is_name name ≡ true → list_all in_line name ≡ true
name_in_line name h = begun_in_line name (begins_or_goes_on (between_spaces name) h)

pub unrefused_in_line : (text : List ℕ) → list_all in_line text ≡ true → refusal text ≡ None
unrefused_in_line [] h = refl
unrefused_in_line (b ∷ text) h =
    let parts = both (in_line b) (list_all in_line text) h in
    rw (unlike_byte in_line 13 b refl parts.0, unlike_byte in_line 10 b refl parts.0, unlike_byte in_line 0 b refl parts.0)
    (unrefused_in_line text parts.1)

-- each of some texts, none of which is refused
pub all_accepted : (refusal_of : List ℕ → Option BuildError) (P : List ℕ → Type 0) → ((text : List ℕ) → refusal_of text ≡ None → P text) → (texts : List (List ℕ)) → first_refusal refusal_of texts ≡ None → All P texts
all_accepted refusal_of P each [] h = All-nil P
all_accepted refusal_of P each (text ∷ others) h =
    let parts = both_none (refusal_of text) (first_refusal refusal_of others) h in
    All-cons P text others (each text parts.0) (all_accepted refusal_of P each others parts.1)
