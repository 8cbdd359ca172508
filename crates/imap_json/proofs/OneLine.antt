-- A text of JSON has no byte below 32.
use Rattle.std.proofs.Common.{◌≡◌, ℕ, zero, suc, ◌+◌, ◌/◌, ◌%◌, ◌<◌, ◌≤◌, ◌==◌, ◌||◌, Bool, true, false, cond, pos, negsuc, List, [], ◌∷◌, ◌++◌, ◌⊎◌, inl, inr, decimal, nat_lt, refl, sym, subst, arith, lit≤}
use Rattle.std.specs.Prelude.{⊤}
use Rattle.std.specs.List.{All}
use Rattle.std.specs.Fmt.{digits, digits_onto, digit_glyph}
use Rattle.std.specs.Char.{digit_char}
use Rattle.std.proofs.lemmas.Bool.{ltb-true, ltb-false, eqb-true}
use Rattle.std.proofs.lemmas.List.Elements.{All-cons, All-nil}
use Rattle.json.specs.Print.{escape_letter, escape_byte, escape, quoted}
use Rattle.serde_json.specs.Data.{Num, unsigned, negative, float, Data, null, boolean, number, string, array, object, Items, no_items, item, Members, no_members, member}
use Rattle.serde_json.specs.Written.{number_text, comma_if, compact_text, items_text, members_text}

abbrev IsPrinted : ℕ → Type 0
IsPrinted b = 32 ≤ b

abbrev ArePrinted : List ℕ → Type 0
ArePrinted [] = ⊤
ArePrinted (b ∷ bs) = IsPrinted b × ArePrinted bs

both : (bs cs : List ℕ) → ArePrinted bs → ArePrinted cs → ArePrinted (bs ++ cs)
both [] cs p q = q
both (b ∷ bs) cs p q = (p.0, both bs cs p.1 q)

all_of : (bs : List ℕ) → ArePrinted bs → All (λ b. 32 ≤ b) bs
all_of [] p = All-nil IsPrinted
all_of (b ∷ bs) p = All-cons IsPrinted b bs p.0 (all_of bs p.1)

-- ---- strings

one_of : (p q : Bool) → (p || q) ≡ true → (p ≡ true) ⊎ (q ≡ true)
one_of true q h = inl refl
one_of false q h = inr h

quote_or_backslash : (x : ℕ) → ((x == 34) || (x == 92)) ≡ true → 32 ≤ x
quote_or_backslash x h = elim (one_of (x == 34) (x == 92) h) [
  | inl e ↦ let same : x ≡ 34 = eqb-true x 34 e in omega arith
  | inr e ↦ let same : x ≡ 92 = eqb-true x 92 e in omega arith
]

letter_by : (a b c d e f : Bool) (x : ℕ) → (a ≡ true → 32 ≤ x)
    → 0 < cond a x (cond b 98 (cond c 102 (cond d 110 (cond e 114 (cond f 116 0))))) → 32 ≤ cond a x (cond b 98 (cond c 102 (cond d 110 (cond e 114 (cond f 116 0)))))
letter_by true b c d e f x h p = h refl
letter_by false true c d e f x h p = lit≤ tt
letter_by false false true d e f x h p = lit≤ tt
letter_by false false false true e f x h p = lit≤ tt
letter_by false false false false true f x h p = lit≤ tt
letter_by false false false false false true x h p = lit≤ tt
letter_by false false false false false false x h p = omega arith

letter_printed : (x : ℕ) → 0 < escape_letter x → 32 ≤ escape_letter x
letter_printed x = letter_by _ _ _ _ _ _ x (quote_or_backslash x)

digit_by : (small : Bool) (d : ℕ) → 32 ≤ cond small (48 + d) (87 + d)
digit_by true d = omega arith
digit_by false d = omega arith

digit_printed : (d : ℕ) → IsPrinted (digit_char d)
digit_printed d = digit_by (nat_lt d 10) d

escaped_by : (letter control : Bool) (x : ℕ) → nat_lt 0 (escape_letter x) ≡ letter → nat_lt x 32 ≡ control → ArePrinted (escape_byte x)
unfolding escape_byte
escaped_by true control x h k = rw h (lit≤ tt, (letter_printed x (ltb-true 0 (escape_letter x) h), tt))
escaped_by false true x h k = rw (h, k) (lit≤ tt, (lit≤ tt, (lit≤ tt, (lit≤ tt, (digit_printed (x / 16), (digit_printed (x % 16), tt))))))
escaped_by false false x h k = rw (h, k) (ltb-false x 32 k, tt)

escape_printed : (s : List ℕ) → ArePrinted (escape s)
escape_printed [] = tt
escape_printed (x ∷ s) = both (escape_byte x) (escape s) (escaped_by _ _ x refl refl) (escape_printed s)

quoted_printed : (s : List ℕ) → ArePrinted (quoted s)
quoted_printed s = (lit≤ tt, both (escape s) (34 ∷ []) (escape_printed s) (lit≤ tt, tt))

-- ---- numbers

glyph_printed : (d : ℕ) → IsPrinted (digit_glyph false d)
glyph_printed d = digit_by (nat_lt d 10) d

either : (b : Bool) (bs cs : List ℕ) → ArePrinted bs → ArePrinted cs → ArePrinted (cond b bs cs)
either true bs cs p q = p
either false bs cs p q = q

digits_printed : (k n : ℕ) (rest : List ℕ) → ArePrinted rest → ArePrinted (digits_onto k 10 false n rest)
digits_printed zero n rest h = h
digits_printed (suc k) n rest h =
    let d = digit_glyph false (n % 10) in
    let first : ArePrinted (d ∷ rest) = (glyph_printed (n % 10), h) in
    either (n / 10 == 0) (d ∷ rest) (digits_onto k 10 false (n / 10) (d ∷ rest)) first (digits_printed k (n / 10) (d ∷ rest) first)

decimal_printed : (n : ℕ) → ArePrinted (decimal n)
unfolding digits
decimal_printed n = digits_printed 64 n [] tt

number_printed : (n : Num) → ArePrinted (number_text n)
number_printed (unsigned n) = decimal_printed n
number_printed (negative (pos n)) = decimal_printed n
number_printed (negative (negsuc n)) = (lit≤ tt, decimal_printed (suc n))
number_printed (float x) = tt

-- ---- values

comma_printed : (later : Bool) → ArePrinted (comma_if later)
comma_printed true = (lit≤ tt, tt)
comma_printed false = tt

mutual
  text_printed : (d : Data) → ArePrinted (compact_text d)
  text_printed null = (lit≤ tt, (lit≤ tt, (lit≤ tt, (lit≤ tt, tt))))
  text_printed (boolean true) = (lit≤ tt, (lit≤ tt, (lit≤ tt, (lit≤ tt, tt))))
  text_printed (boolean false) = (lit≤ tt, (lit≤ tt, (lit≤ tt, (lit≤ tt, (lit≤ tt, tt)))))
  text_printed (number n) = number_printed n
  text_printed (string s) = quoted_printed s
  text_printed (array ds) = (lit≤ tt, items_printed false ds)
  text_printed (object ms) = (lit≤ tt, members_printed false ms)

  items_printed : (later : Bool) (ds : Items) → ArePrinted (items_text later ds)
  items_printed later no_items = (lit≤ tt, tt)
  items_printed later (item d ds) =
      both (comma_if later) (compact_text d ++ items_text true ds) (comma_printed later)
      (both (compact_text d) (items_text true ds) (text_printed d) (items_printed true ds))

  members_printed : (later : Bool) (ms : Members) → ArePrinted (members_text later ms)
  members_printed later no_members = (lit≤ tt, tt)
  members_printed later (member k d ms) =
      both (comma_if later) (quoted k ++ 58 ∷ (compact_text d ++ members_text true ms)) (comma_printed later)
      (both (quoted k) (58 ∷ (compact_text d ++ members_text true ms)) (quoted_printed k)
      (lit≤ tt, both (compact_text d) (members_text true ms) (text_printed d) (members_printed true ms)))

pub line_of_text : (text : List ℕ) (d : Data) → text ≡ compact_text d → All (λ b. 32 ≤ b) text
line_of_text text d same = subst (All (λ b. 32 ≤ b)) (sym same) (all_of (compact_text d) (text_printed d))
