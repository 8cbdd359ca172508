-- Reading a run of bytes of one kind, a word, a number, and a quoted text off the front of a text.
use Rattle.std.proofs.Common.{◌≡◌, ℕ, ◌<◌, ◌^◌, List, [], ◌∷◌, ◌++◌, Bool, true, false, cond, Option, None, Some, refl, ap, ◌∙◌, append_assoc, nat_lt, drop}
use Rattle.std.specs.Prelude.{decimal, ◌==◌, ◌&&◌}
use Rattle.std.specs.List.{list_all, flat_map}
use Rattle.std.specs.Char.{digit_value}
use Rattle.std.specs.Str.Parse.{AllDigits, digits_value}
use Rattle.std.proofs.lemmas.Bool.{lt-ltb}
use Rattle.std.proofs.lemmas.Fmt.{decimal_is_IsNumeral}
use Rattle.imap_command.specs.Arguments.{quoted, escaped_byte}

pub both : (a b : Bool) → (a && b) ≡ true → (a ≡ true) × (b ≡ true)
both true b h = (refl, h)
both false b h = cc

-- the bytes in front that pass, and what follows them
abbrev pub front : (ℕ → Bool) → List ℕ → List ℕ
front p [] = []
front p (b ∷ bs) = cond (p b) (b ∷ front p bs) []

abbrev pub beyond : (ℕ → Bool) → List ℕ → List ℕ
beyond p [] = []
beyond p (b ∷ bs) = cond (p b) (beyond p bs) (b ∷ bs)

pub front-append : (p : ℕ → Bool) (run : List ℕ) (b : ℕ) (rest : List ℕ) → list_all p run ≡ true → p b ≡ false → front p (run ++ (b ∷ rest)) ≡ run
front-append p [] b rest all stop = rw stop refl
front-append p (x ∷ run) b rest all stop =
    let parts = both (p x) (list_all p run) all in
    rw (parts.0, front-append p run b rest parts.1 stop) refl

pub beyond-append : (p : ℕ → Bool) (run : List ℕ) (b : ℕ) (rest : List ℕ) → list_all p run ≡ true → p b ≡ false → beyond p (run ++ (b ∷ rest)) ≡ b ∷ rest
beyond-append p [] b rest all stop = rw stop refl
beyond-append p (x ∷ run) b rest all stop =
    let parts = both (p x) (list_all p run) all in
    rw (parts.0, beyond-append p run b rest parts.1 stop) refl

-- a word, and what follows it
abbrev pub stripped : List ℕ → List ℕ → Option (List ℕ)
stripped [] text = Some text
stripped (w ∷ word) [] = None
stripped (w ∷ word) (b ∷ text) = cond (w == b) (stripped word text) None

-- digits
abbrev pub is_digit : ℕ → Bool
is_digit b = nat_lt (digit_value b) 10

all_digits : (ds : List ℕ) → AllDigits 10 ds → list_all is_digit ds ≡ true
all_digits [] h = refl
all_digits (d ∷ ds) h = rw (lt-ltb (digit_value d) 10 h.0) (all_digits ds h.1)

abbrev pub number : List ℕ → ℕ
number text = digits_value 10 (front is_digit text)

pub number-decimal : (n b : ℕ) (rest : List ℕ) → n < 2 ^ 64 → is_digit b ≡ false → number (decimal n ++ (b ∷ rest)) ≡ n
number-decimal n b rest fits stop =
    let numeral = decimal_is_IsNumeral n fits in
    ap (digits_value 10) (front-append is_digit (decimal n) b rest (all_digits (decimal n) numeral.0.1) stop) ∙ numeral.1

pub beyond-decimal : (n b : ℕ) (rest : List ℕ) → n < 2 ^ 64 → is_digit b ≡ false → beyond is_digit (decimal n ++ (b ∷ rest)) ≡ b ∷ rest
beyond-decimal n b rest fits stop =
    beyond-append is_digit (decimal n) b rest (all_digits (decimal n) (decimal_is_IsNumeral n fits).0.1) stop

-- the content of a quoted text, where `escaped` says that a `\` stands before, and what follows it
abbrev pub content : Bool → List ℕ → List ℕ
content escaped [] = []
content true (b ∷ bs) = b ∷ content false bs
content false (b ∷ bs) = cond (b == 34) [] (cond (b == 92) (content true bs) (b ∷ content false bs))

abbrev pub behind : Bool → List ℕ → List ℕ
behind escaped [] = []
behind true (b ∷ bs) = behind false bs
behind false (b ∷ bs) = cond (b == 34) bs (cond (b == 92) (behind true bs) (behind false bs))

content_step : (b : ℕ) (more : List ℕ) → content false (escaped_byte b ++ more) ≡ b ∷ content false more
content_step b more =
    elim (b == 34) as (λ v. (b == 34) ≡ v → content false (escaped_byte b ++ more) ≡ b ∷ content false more) [
      | true ↦ λ quote. rw quote refl
      | false ↦ λ plain. elim (b == 92) as (λ v. (b == 92) ≡ v → content false (escaped_byte b ++ more) ≡ b ∷ content false more) [
        | true ↦ λ backslash. simp (plain, backslash) refl
        | false ↦ λ other. simp (plain, other) refl
      ] refl
    ] refl

behind_step : (b : ℕ) (more : List ℕ) → behind false (escaped_byte b ++ more) ≡ behind false more
behind_step b more =
    elim (b == 34) as (λ v. (b == 34) ≡ v → behind false (escaped_byte b ++ more) ≡ behind false more) [
      | true ↦ λ quote. simp quote refl
      | false ↦ λ plain. elim (b == 92) as (λ v. (b == 92) ≡ v → behind false (escaped_byte b ++ more) ≡ behind false more) [
        | true ↦ λ backslash. simp (plain, backslash) refl
        | false ↦ λ other. simp (plain, other) refl
      ] refl
    ] refl

content_escaped : (text rest : List ℕ) → content false (flat_map escaped_byte text ++ (34 ∷ rest)) ≡ text
content_escaped [] rest = refl
content_escaped (b ∷ text) rest =
    ap (content false) (append_assoc (escaped_byte b) (flat_map escaped_byte text) (34 ∷ rest))
    ∙ content_step b (flat_map escaped_byte text ++ (34 ∷ rest))
    ∙ ap (λ l. b ∷ l) (content_escaped text rest)

behind_escaped : (text rest : List ℕ) → behind false (flat_map escaped_byte text ++ (34 ∷ rest)) ≡ rest
behind_escaped [] rest = refl
behind_escaped (b ∷ text) rest =
    ap (behind false) (append_assoc (escaped_byte b) (flat_map escaped_byte text) (34 ∷ rest))
    ∙ behind_step b (flat_map escaped_byte text ++ (34 ∷ rest))
    ∙ behind_escaped text rest

-- a quoted text, read behind its first `"`
pub opened : (text rest : List ℕ) → quoted text ++ rest ≡ 34 ∷ (flat_map escaped_byte text ++ (34 ∷ rest))
opened text rest = ap (λ l. 34 ∷ l) (append_assoc (flat_map escaped_byte text) (34 ∷ []) rest)

abbrev pub quoted_content : List ℕ → List ℕ
quoted_content text = content false (drop 1 text)

abbrev pub behind_quoted : List ℕ → List ℕ
behind_quoted text = behind false (drop 1 text)

pub quoted_content-quoted : (text rest : List ℕ) → quoted_content (quoted text ++ rest) ≡ text
quoted_content-quoted text rest = ap quoted_content (opened text rest) ∙ content_escaped text rest

pub behind_quoted-quoted : (text rest : List ℕ) → behind_quoted (quoted text ++ rest) ≡ rest
behind_quoted-quoted text rest = ap behind_quoted (opened text rest) ∙ behind_escaped text rest
