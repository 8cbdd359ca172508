-- Numbers, strings and texts read back.
use Rattle.std.proofs.Common.{◌≡◌, ℕ, ◌<◌, ◌≤◌, ◌^◌, Bool, true, [], ◌∷◌, ◌++◌, length, IsTrue, Option, None, Some, sym, ◌∙◌, subst, refl, inl, inr, append_assoc, append-nil, arith, codes, decimal, ap₂, nat_lt, IsUtf8}
use Rattle.std.proofs.lemmas.Bool.{and_from, lt-ltb, ltb-true}
use Rattle.std.proofs.lemmas.Bool.Decides.{nat_tests}
use Rattle.std.proofs.lemmas.Fmt.{decimal_is_IsNumeral}
use Rattle.std.specs.List.{list_all}
use Rattle.std.specs.Option.{option_map}
use Rattle.std.specs.Char.{digit_value}
use Rattle.std.specs.Str.Parse.{AllDigits, IsNumeral, digits_value}
use Rattle.std.proofs.lemmas.Str.{is_utf8-from_IsUtf8, utf8_lossy-IsUtf8}
use Rattle.imap_grammar.specs.Meaning.{Denies, differs, outside}
use Rattle.imap_grammar.specs.Rule.{Rule, run1, gives, meaning}
use Rattle.imap_grammar.specs.Text.{Bytes, Text, decoded, as_text, lent_text}
use Rattle.imap_grammar.specs.Classes.{is_digit}
use Rattle.imap_grammar.specs.Tags.{same_letter}
use Rattle.imap_grammar.specs.Pieces.{Pieces, written, words, lit, literal_of, number_text, nstring_text, literal_text, ntext}
use Rattle.imap_grammar.specs.ReadBack.{ReadsBack, Any, BeginsWith, as_is}
use Rattle.imap_grammar.proofs.Yields.{Yields, made_yields}
use Rattle.imap_grammar.proofs.Reading.{raw_on, test-has, test-on, denies-after, denies-tag, takes-tag, reads-gives, reads-alt, reads-names, apart-gives}
use Rattle.imap_bytes.specs.Numbers.{digits, number_below, number, number_64}
use Rattle.imap_bytes.specs.Strings.{literal_header, literal, quoted, string, astring, nil, nil_or, nstring}
use Rattle.imap_bytes.specs.Texts.{utf8, string_utf8, astring_utf8, nstring_utf8}
use Rattle.imap_bytes.proofs.LossyTwice.{IsUtf8-lossy}

-- ---- numbers

digit : (c : ℕ) → digit_value c < 10 → is_digit c ≡ true
digit c h = grind (arith, nat_tests)

all_digits : (ds : Bytes) → AllDigits 10 ds → list_all is_digit ds ≡ true
all_digits [] h = refl
all_digits (d ∷ ds) h = and_from _ _ (digit d h.0) (all_digits ds h.1)

abbrev pub not_digit : ℕ → Bool
not_digit b = outside is_digit b

pub number_on : (bound n : ℕ) → bound ≤ 2 ^ 64 → n < bound → (t : Bytes) → BeginsWith not_digit t → (meaning (number_below bound)).yields (decimal n ++ t) n t
unfolding meaning digits
number_on bound n fits below t end = test-on (λ n. nat_lt n bound) spelled_number _ n t (digits_on (decimal_is_IsNumeral n (omega arith))) (lt-ltb n bound below)
  where
    spelled_number : Rule ℕ
    spelled_number = gives (digits_value 10) (run1 is_digit)

    digits_on : IsNumeral 10 (decimal n) × (digits_value 10 (decimal n) ≡ n) → (meaning spelled_number).yields (decimal n ++ t) n t
    digits_on numeral = (decimal n, ((refl, all_digits (decimal n) numeral.0.1, end), numeral.0.0), numeral.1)

pub reads-number_below : (bound : ℕ) → bound ≤ 2 ^ 64 → ReadsBack (number_below bound) as_is number_text (BeginsWith not_digit)
reads-number_below bound fits = record {
  again = λ m v rest y f t g.
      subst (λ l. (meaning (number_below bound)).yields l v t) (sym (raw_on (decimal v) t)) (number_on bound v fits (ltb-true v bound (test-has _ _ m v rest y).1) t g);
}

pub reads-number : ReadsBack number as_is number_text (BeginsWith not_digit)
unfolding number
reads-number = reads-number_below (2 ^ 32) (omega arith)

pub reads-number_64 : ReadsBack number_64 as_is number_text (BeginsWith not_digit)
unfolding number_64
reads-number_64 = reads-number_below (2 ^ 64) (omega arith)

-- a number begins with a digit
pub number_first : (n : ℕ) → n < 2 ^ 64 → (b : ℕ) × (ds : Bytes) × (decimal n ≡ b ∷ ds) × (is_digit b ≡ true)
number_first n small = go (decimal n) refl (decimal_is_IsNumeral n small).0
  where
    go : (ds : Bytes) → decimal n ≡ ds → IsNumeral 10 ds → (b : ℕ) × (ds : Bytes) × (decimal n ≡ b ∷ ds) × (is_digit b ≡ true)
    go [] e numeral = absurd (omega (arith, numeral.0))
    go (b ∷ ds) e numeral = (b, ds, e, digit b numeral.1.0)

-- ---- strings

pub literal_on : (b t : Bytes) → length b < 2 ^ 32 → (meaning literal).yields (literal_of b ++ t) b t
unfolding meaning number literal_header literal
literal_on b t short =
    let n = length b in
    let after_brace : Bytes = 13 ∷ 10 ∷ (b ++ t) in
    let digits_on : (meaning number).yields ((decimal n ++ (125 ∷ 13 ∷ 10 ∷ b)) ++ t) n (125 ∷ after_brace) =
    subst (λ l. (meaning number).yields l n (125 ∷ after_brace)) (sym (append_assoc (decimal n) (125 ∷ 13 ∷ 10 ∷ b) t)) (number_on (2 ^ 32) n (omega arith) short (125 ∷ after_brace) refl) in (
      b ++ t,
      (
        (123 ∷ [], n),
        (
          (decimal n ++ (125 ∷ 13 ∷ 10 ∷ b)) ++ t,
          (refl, refl),
          ((n, (125 ∷ [], 13 ∷ 10 ∷ [])), (125 ∷ after_brace, digits_on, (after_brace, (refl, refl), (refl, refl))), refl),
        ),
        refl,
      ),
      refl,
    )

-- a literal, where a quoted string may stand too
pub quoted-denies : (b t : Bytes) → Denies (meaning quoted) (literal_of b ++ t)
unfolding quoted
quoted-denies b t = denies-after _ _ _ (denies-tag _ _ _ refl)

pub string_on : (b t : Bytes) → length b < 2 ^ 32 → (meaning string).yields (literal_of b ++ t) b t
unfolding meaning string
string_on b t short = inr (quoted-denies b t, literal_on b t short)

-- what a literal stands for, it stands for again
pub reads-string : ReadsBack string as_is lit Any
reads-string = record { again = λ m v rest y f t g. subst (λ l. (meaning string).yields (l ++ t) v t) (sym (append-nil (literal_of v))) (string_on v t f.0) }

pub astring_on : (b t : Bytes) → length b < 2 ^ 32 → (meaning astring).yields (literal_of b ++ t) b t
unfolding meaning astring
astring_on b t short = inr (refl, string_on b t short)

-- ---- texts

-- UTF-8 is decoded as it is, borrowed
pub decoded_utf8 : (b : Bytes) → IsUtf8 b → decoded b ≡ as_text b
decoded_utf8 b u = ap₂ text_with (utf8_lossy-IsUtf8 b u) (is_utf8-from_IsUtf8 b u)
  where
    text_with : Bytes → Bool → Text
    text_with bytes borrowed = record { bytes = bytes; borrowed = borrowed }

-- the text that bytes were decoded to is decoded as that text, borrowed
pub decoded_twice : (b : Bytes) (t : Text) → decoded b ≡ t → decoded t.bytes ≡ lent_text t
decoded_twice b t e = decoded_utf8 t.bytes (subst (λ (x : Text). IsUtf8 x.bytes) e (IsUtf8-lossy b))

-- a decoded text is UTF-8
pub utf8_yields : {a : Rule Bytes} → Yields (λ (t : Text). IsUtf8 t.bytes) (utf8 a)
utf8_yields = made_yields decoded (λ b. IsUtf8-lossy b)

pub reads-utf8 : (a : Rule Bytes) → ((b t : Bytes) → length b < 2 ^ 32 → (meaning a).yields (literal_of b ++ t) b t) → ReadsBack (utf8 a) lent_text literal_text Any
unfolding meaning
reads-utf8 a on = record {
  again = λ m v rest y f t g.
      (v.bytes, subst (λ l. (meaning a).yields (l ++ t) v.bytes t) (sym (append-nil (literal_of v.bytes))) (on v.bytes t f.0), decoded_twice y.0 v y.2);
}

-- ---- NIL

-- NIL, or what a begins with no letter of it
pub reads-nil_or : {A : Type 0} {a : Rule A} {la : A → A} {l : Option A → Option A} {c : Option A → Pieces} {F : Bytes → Type 0} → c None ≡ words "NIL" → ReadsBack a la (λ x. c (Some x)) F
    → ((x : A) (t : Bytes) → F t → IsTrue (differs same_letter (codes "NIL") (written (c (Some x)) ++ t))) → l None ≡ None → ((x : A) → Some (la x) ≡ l (Some x)) → ReadsBack (nil_or a) l c F
unfolding nil
reads-nil_or e h apart none some =
    reads-alt (reads-names None (takes-tag _ _ (codes "NIL") refl) e none) (reads-gives Some h some)
    (apart-gives _ Some (λ x t g. denies-after _ _ _ (denies-tag _ _ _ (apart x t g))))

-- NIL is read as no value, and what is read with a value is read by a
pub nil_or-none : {A : Type 0} (a : Rule A) (t : Bytes) → (meaning (nil_or a)).yields (codes "NIL" ++ t) None t
unfolding meaning nil
nil_or-none a t = inl ((codes "NIL", None), (t, (refl, refl), (refl, refl)), refl)

pub nil_or-some : {A : Type 0} (a : Rule A) (m rest : Bytes) (x : A) → (meaning (nil_or a)).yields m (Some x) rest → (meaning a).yields m x rest
unfolding meaning
nil_or-some a m rest x (inl y) =
    let none : None ≡ Some x = y.1.2.0 ∙ y.2 in
    absurd cc
nil_or-some a m rest x (inr y) =
    let same : y.1.0 ≡ x = cc in
    subst (λ w. (meaning a).yields m w rest) same y.1.1

pub reads-nstring : ReadsBack nstring as_is nstring_text Any
unfolding nstring
reads-nstring = reads-nil_or refl reads-string (λ x t g. refl) refl (λ x. refl)

pub reads-string_utf8 : ReadsBack string_utf8 lent_text literal_text Any
unfolding string_utf8
reads-string_utf8 = reads-utf8 string string_on

pub reads-astring_utf8 : ReadsBack astring_utf8 lent_text literal_text Any
unfolding astring_utf8
reads-astring_utf8 = reads-utf8 astring astring_on

pub reads-nstring_utf8 : ReadsBack nstring_utf8 (option_map lent_text) ntext Any
unfolding nstring_utf8
reads-nstring_utf8 = reads-nil_or refl reads-string_utf8 (λ x t g. refl) refl (λ x. refl)
