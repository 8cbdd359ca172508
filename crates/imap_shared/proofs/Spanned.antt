-- What spans name: of a form's bytes, of a word, of flags.
use Rattle.std.proofs.Common.{◌≡◌, ℕ, true, ◌-◌, ◌≤◌, ◌<◌, [], ◌∷◌, ◌++◌, length, take, drop, codes, Ok, inl, inr, refl, sym, ◌∙◌, ap, ap₂, arith}
use Rattle.std.proofs.lemmas.Bool.{and_parts}
use Rattle.std.proofs.Math.Seq.{take-append_seam}
use Rattle.std.proofs.lemmas.List.{length-append, length-drop}
use Rattle.std.proofs.lemmas.Str.{IsUtf8-from_ascii, IsUtf8-from_is_utf8, is_utf8-from_IsUtf8, utf8_lossy-IsUtf8}
use Rattle.std.proofs.lemmas.Str.Ascii.{IsAscii-from_all}
use Rattle.std.proofs.lemmas.List.Elements.{All-nil, All-cons}
use Rattle.std.specs.Str.{is_utf8}
use Rattle.imap_grammar.specs.Spelling.{this}
use Rattle.imap_grammar.specs.ReadBack.{Spells}
use Rattle.imap_grammar.specs.Positions.{between}
use Rattle.imap_grammar.specs.Rule.{Rule, raw, gives}
use Rattle.imap_grammar.specs.Step.{Step, step}
use Rattle.imap_grammar.specs.Text.{Bytes, as_text, decoded}
use Rattle.imap_grammar.proofs.Agreement.{agrees}
use Rattle.imap_grammar.proofs.Spelling.{spells-wider}
use Rattle.imap_grammar.proofs.Yields.{Yields, either_yields, named_yields}
use Rattle.imap_shared.specs.Flags.{flag, flag_perm}
use Rattle.imap_shared.specs.FlagTexts.{is_flag_word, spells_flag_perm}
use Rattle.imap_shared.proofs.FlagTexts.{flag-is, flag_spells, flag_perm_spells}

read : {V : Type 0} → Bytes → V → Step V
read rest v = Ok (rest, v)

-- the bytes that a form took from p up to q
pub raw_between : {A : Type 0} (a : Rule A) (m : Bytes) (p q : ℕ) (v : A) → p ≤ q → q ≤ length m → step a (drop p m) ≡ Ok (drop q m, v) → step (raw a) (drop p m) ≡ Ok (drop q m, between m p q)
unfolding read
raw_between a m p q v le within is =
    let e : length (drop p m) - length (drop q m) ≡ q - p = omega (arith, le, within, length-drop p m, length-drop q m) in
    rw is (ap (λ k. read (drop q m) (take k (drop p m))) e)

-- decoding what is UTF-8 changes nothing
pub utf8_decoded : (a : Rule Bytes) (m rest v : Bytes) → Yields (λ b. is_utf8 b ≡ true) a → step a m ≡ Ok (rest, v) → step (gives as_text a) m ≡ Ok (rest, decoded v)
unfolding read
utf8_decoded a m rest v utf8 is =
    let whole = utf8.each m v rest ((agrees a m).yielded v rest is) in
    let same : as_text v ≡ decoded v = rw (whole, utf8_lossy-IsUtf8 v (IsUtf8-from_is_utf8 v whole)) refl in
    rw is (ap (λ t. read rest t) same)

flags_utf8 : Yields (λ b. is_utf8 b ≡ true) flag
flags_utf8 = record { each = λ m v rest y. (and_parts (is_utf8 v) (is_flag_word v) (flag-is m v rest y)).0 }

star_utf8 : is_utf8 (codes "\\*") ≡ true
star_utf8 =
    let small : ℕ → Type 0 = λ b. b < 128 in
    is_utf8-from_IsUtf8 (codes "\\*") (IsUtf8-from_ascii (codes "\\*") (IsAscii-from_all (codes "\\*") (All-cons small 92 (42 ∷ []) (omega arith) (All-cons small 42 [] (omega arith) (All-nil small)))))

flag_perms_utf8 : Yields (λ b. is_utf8 b ≡ true) flag_perm
unfolding flag_perm
flag_perms_utf8 = either_yields (named_yields star_utf8) flags_utf8

-- What was read from p up to q, where a rule gives what it takes, and that is UTF-8.
there : (a : Rule Bytes) (m : Bytes) (p q : ℕ) (v : Bytes) → Yields (λ b. is_utf8 b ≡ true) a → Spells a this → p ≤ q → q ≤ length m → step a (drop p m) ≡ Ok (drop q m, v) → step (gives as_text a) (drop p m) ≡ Ok (drop q m, decoded (between m p q))
unfolding read
there a m p q v utf8 taken le within is =
    let bytes = taken.consumed (drop p m) v (drop q m) ((agrees a (drop p m)).yielded v (drop q m) is) in
    let front : drop p m ≡ v ++ drop q m = bytes.1 ∙ ap (λ c. c ++ drop q m) bytes.2 in
    let long : q - p ≡ length v = omega (arith, le, within, length-drop p m, length-drop q m, ap length front, length-append v (drop q m)) in
    let same : v ≡ between m p q = sym (take-append_seam v (drop q m)) ∙ ap₂ take (sym long) (sym front) in
    utf8_decoded a (drop p m) (drop q m) v utf8 is ∙ ap (λ b. read (drop q m) (decoded b)) same

pub flag_there : (m : Bytes) (p q : ℕ) (v : Bytes) → p ≤ q → q ≤ length m → step flag (drop p m) ≡ Ok (drop q m, v) → step (gives as_text flag) (drop p m) ≡ Ok (drop q m, decoded (between m p q))
flag_there m p q v le within is = there flag m p q v flags_utf8 (spells-wider flag_spells (λ v c h. h.1)) le within is

pub flag_perm_there : (m : Bytes) (p q : ℕ) (v : Bytes) → p ≤ q → q ≤ length m → step flag_perm (drop p m) ≡ Ok (drop q m, v) → step (gives as_text flag_perm) (drop p m) ≡ Ok (drop q m, decoded (between m p q))
flag_perm_there m p q v le within is = there flag_perm m p q v flag_perms_utf8 (spells-wider flag_perm_spells as_it_stands) le within is
  where
    as_it_stands : (v c : Bytes) → spells_flag_perm v c → this v c
    as_it_stands v c (inl h) = h.1
    as_it_stands v c (inr h) = h.1
