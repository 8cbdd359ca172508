-- Why a text spells no such value: all texts that spell it pass a test, which can be computed, and this text fails it.
use Rattle.std.proofs.Common.{◌≡◌, ℕ, ◌<◌, ◌⊎◌, ◌==◌, ◌&&◌, ◌||◌, Bool, true, false, not, IsTrue, List, [], ◌∷◌, ◌++◌, length, sym, subst, refl, inl, inr, codes, ap, ◌∙◌, nat_eq, nat_lt, drop, chars, IsUtf8, encode_utf8, encode_utf8_all, arith}
use Prim.Native.String.{String}
use Rattle.std.specs.List.{list_all}
use Rattle.std.specs.Cmp.Lexicographic.{pointwise}
use Rattle.std.specs.Str.Parse.{digits_value}
use Rattle.std.specs.Str.Lossy.{utf8_lossy}
use Rattle.std.specs.Str.{IsAscii}
use Rattle.std.proofs.lemmas.Str.{IsUtf8-from_ascii, utf8_lossy-IsUtf8, encode_ascii, chars_past_char, IsUtf8-past_char, encodes-chars}
use Rattle.std.proofs.lemmas.Str.Ascii.{IsAscii-nil, IsAscii-cons}
use Rattle.std.proofs.lemmas.Bool.{and_parts, and_from, or_left, false≢true}
use Rattle.imap_grammar.specs.Ascii.{line_feed, carriage_return, quote, backslash}
use Rattle.imap_grammar.specs.Classes.{is_digit, is_quoted_char, is_astring_char}
use Rattle.imap_grammar.specs.Meaning.{is_word}
use Rattle.imap_grammar.specs.Tags.{same_letter}
use Rattle.imap_grammar.specs.Text.{Bytes, Text}
use Rattle.imap_grammar.specs.ReadBack.{Texts}
use Rattle.imap_grammar.specs.Spelling.{this, in_any_case, ◌and◌, all_of, some_of, as_it_is, lossily, maybe, each_of, spells_number, spells_literal, content_part, content_text, spells_quoted, spells_string, spells_astring}

-- all texts of P pass the test
pub record Passes (P : Texts) (test : Bytes → Bool) : Type 0 where
  pub passes : (c : Bytes) → P c → test c ≡ true

pub refuted : {P : Texts} {test : Bytes → Bool} → Passes P test → (c : Bytes) → test c ≡ false → ¬ (P c)
refuted h c fails p = false≢true (sym fails ∙ h.passes c p)

-- ---- cuts

pub or_right : (x y : Bool) → y ≡ true → (x || y) ≡ true
or_right true y h = refl
or_right false y h = h

-- at some place where it is cut, both parts pass
abbrev pub any_cut : (Bytes → Bytes → Bool) → Bytes → Bool
any_cut f [] = f [] []
any_cut f (x ∷ c) = f [] (x ∷ c) || any_cut (λ a b. f (x ∷ a) b) c

cut_found : (f : Bytes → Bytes → Bool) (a b : Bytes) → f a b ≡ true → any_cut f (a ++ b) ≡ true
cut_found f [] [] h = h
cut_found f [] (x ∷ b) h = or_left _ _ h
cut_found f (x ∷ a) b h = or_right _ _ (cut_found (λ c d. f (x ∷ c) d) a b h)

pub cut_at : (f : Bytes → Bytes → Bool) (c a b : Bytes) → c ≡ a ++ b → f a b ≡ true → any_cut f c ≡ true
cut_at f c a b e h = subst (λ z. any_cut f z ≡ true) (sym e) (cut_found f a b h)

-- ---- words

abbrev pub same_as : Bytes → Bytes → Bool
same_as b c = pointwise nat_eq c b

pub same_self : (b : Bytes) → same_as b b ≡ true
same_self [] = refl
same_self (x ∷ b) = and_from _ _ (search arith) (same_self b)

pub passes-this : (b : Bytes) → Passes (this b) (same_as b)
passes-this b = record { passes = λ c e. subst (λ z. same_as b z ≡ true) (sym e) (same_self b) }

pub passes-any_case : (k : String) → Passes (in_any_case k) (is_word same_letter (codes k))
passes-any_case k = record { passes = λ c h. h }

infixr 30 ◌andᵖ◌
pub ◌andᵖ◌ : {P Q : Texts} {p q : Bytes → Bool} → Passes P p → Passes Q q → Passes (P and Q) (any_cut (λ a b. p a && q b))
h andᵖ k = record { passes = λ c x. cut_at _ c x.0 x.1 x.2 (and_from _ _ (h.passes x.0 x.3) (k.passes x.1 x.4)) }

either_passes : {P Q : Texts} {p q : Bytes → Bool} → Passes P p → Passes Q q → (c : Bytes) → P c ⊎ Q c → (p c || q c) ≡ true
either_passes h k c (inl x) = or_left _ _ (h.passes c x)
either_passes h k c (inr x) = or_right _ _ (k.passes c x)

infixr 20 ◌orᵖ◌
pub ◌orᵖ◌ : {P Q : Texts} {p q : Bytes → Bool} → Passes P p → Passes Q q → Passes (λ c. P c ⊎ Q c) (λ c. p c || q c)
h orᵖ k = record { passes = either_passes h k }

-- beside what is said of the value alone
pub passes-beside : {A : Type 0} {P : Texts} {p : Bytes → Bool} → Passes P p → Passes (λ c. A × P c) p
passes-beside h = record { passes = λ c x. h.passes c x.1 }

pub passes-class : (p : ℕ → Bool) → Passes (all_of p) (list_all p)
passes-class p = record { passes = λ c h. h }

-- at least one byte
abbrev pub filled : Bytes → Bool
filled [] = false
filled (b ∷ c) = true

filled_from : (c : Bytes) → 0 < length c → filled c ≡ true
filled_from [] h = absurd (search arith)
filled_from (b ∷ c) h = refl

pub passes-some : (p : ℕ → Bool) → Passes (some_of p) (λ c. list_all p c && filled c)
passes-some p = record { passes = λ c h. and_from _ _ h.0 (filled_from c h.1) }

abbrev pub is_number : ℕ → Bytes → Bool
is_number n c = list_all is_digit c && (filled c && nat_eq (digits_value 10 c) n)

pub passes-number : (n : ℕ) → Passes (spells_number n) (is_number n)
passes-number n = record { passes = λ c h. and_from _ _ h.0 (and_from _ _ (filled_from c h.1) (search arith)) }

-- ---- texts that tell a value: if it passes the test k, so does the text

pub record Tells (P : Bytes → Texts) (test : (Bytes → Bool) → Bytes → Bool) : Type 0 where
  pub tells : (k : Bytes → Bool) (b c : Bytes) → P b c → k b ≡ true → test k c ≡ true

pub tells-as_it_is : {P : Texts} {p : Bytes → Bool} → Passes P p → Tells (as_it_is P) (λ k c. k c && p c)
tells-as_it_is {p = p} h = record { tells = λ k b c x y. and_from _ _ (subst (λ z. k z ≡ true) (sym x.0) y) (subst (λ z. p z ≡ true) (sym x.0) (h.passes b x.1)) }

either_tells : {P Q : Bytes → Texts} {p q : (Bytes → Bool) → Bytes → Bool} → Tells P p → Tells Q q → (k : Bytes → Bool) (b c : Bytes) → P b c ⊎ Q b c → k b ≡ true → (p k c || q k c) ≡ true
either_tells h l k b c (inl x) y = or_left _ _ (h.tells k b c x y)
either_tells h l k b c (inr x) y = or_right _ _ (l.tells k b c x y)

-- raw content, read from its front: behind a backslash stands a backslash or a quote
abbrev is_content_from : Bool → Bytes → Bool
is_content_from escaped [] = not escaped
is_content_from true (b ∷ c) = (b == backslash || b == quote) && is_content_from false c
is_content_from false (b ∷ c) = (b == backslash && is_content_from true c) || (is_quoted_char b && is_content_from false c)

abbrev is_content : Bytes → Bool
is_content = is_content_from false

quoted_chars_before : (a b : Bytes) → IsTrue (list_all is_quoted_char a) → is_content b ≡ true → is_content (a ++ b) ≡ true
quoted_chars_before [] b h k = k
quoted_chars_before (x ∷ a) b h k = let both = and_parts _ _ h in or_right _ _ (and_from _ _ both.0 (quoted_chars_before a b both.1 k))

part_before : (a b : Bytes) → content_part a → is_content b ≡ true → is_content (a ++ b) ≡ true
part_before a b (inl x) k = quoted_chars_before a b x.0 k
part_before a b (inr (inl x)) k = subst (λ z. is_content (z ++ b) ≡ true) (sym x) (or_left _ _ k)
part_before a b (inr (inr x)) k = subst (λ z. is_content (z ++ b) ≡ true) (sym x) (or_left _ _ k)

parts_content : (parts : List Bytes) (c : Bytes) → each_of (as_it_is content_part) parts c → is_content c ≡ true
parts_content [] c e = subst (λ z. is_content z ≡ true) (sym e) refl
parts_content (a ∷ parts) c x =
    subst (λ z. is_content z ≡ true) (sym x.2)
    (subst (λ z. is_content (z ++ x.1) ≡ true) (sym x.3.0) (part_before a x.1 x.3.1 (parts_content parts x.1 x.4)))

passes-content : Passes content_text is_content
passes-content = record { passes = λ c x. parts_content x.0 c x.1 }

-- the text of a quoted string tells its content
abbrev told_quoted : (Bytes → Bool) → Bytes → Bool
told_quoted k = any_cut (λ a r. same_as (codes "\"") a && any_cut (λ b e. (k b && is_content b) && same_as (codes "\"") e) r)

-- the text of a literal tells its bytes
abbrev told_literal : (Bytes → Bool) → Bytes → Bool
told_literal k =
    any_cut (λ h r. same_as (codes "{") h
    && any_cut (λ n s. any_cut (λ e t. same_as (codes "}") e
    && any_cut (λ l b. same_as (carriage_return ∷ line_feed ∷ []) l && (is_number (length b) n && k b)) t) s) r)

pub tells-literal : Tells spells_literal told_literal
tells-literal = record {
  tells = λ k b c x y.
      cut_at _ c x.0 x.1 x.2 (and_from _ _ ((passes-this (codes "{")).passes x.0 x.3)
      (cut_at _ x.1 x.4.0 x.4.1 x.4.2
      (cut_at _ x.4.1 x.4.4.0 x.4.4.1 x.4.4.2 (and_from _ _ ((passes-this (codes "}")).passes x.4.4.0 x.4.4.3)
      (cut_at _ x.4.4.1 x.4.4.4.0 x.4.4.4.1 x.4.4.4.2 (and_from _ _ ((passes-this (carriage_return ∷ line_feed ∷ [])).passes x.4.4.4.0 x.4.4.4.3)
      (subst (λ z. (is_number (length z) x.4.0 && k z) ≡ true) (sym x.4.4.4.4) (and_from _ _ ((passes-number (length b)).passes x.4.0 x.4.3) y))))))));
}

pub tells-quoted : Tells spells_quoted told_quoted
tells-quoted = record {
  tells = λ k b c x y.
      cut_at _ c x.0 x.1 x.2 (and_from _ _ ((passes-this (codes "\"")).passes x.0 x.3)
      (cut_at _ x.1 x.4.0 x.4.1 x.4.2 (and_from _ _ ((tells-as_it_is passes-content).tells k b x.4.0 x.4.3 y) ((passes-this (codes "\"")).passes x.4.1 x.4.4))));
}

pub tells-string : Tells spells_string (λ k c. told_quoted k c || told_literal k c)
tells-string = record { tells = either_tells tells-quoted tells-literal }

abbrev pub told_string : (Bytes → Bool) → Bytes → Bool
told_string k c = told_quoted k c || told_literal k c

abbrev pub told_astring : (Bytes → Bool) → Bytes → Bool
told_astring k c = (k c && (list_all is_astring_char c && filled c)) || told_string k c

pub tells-astring : Tells spells_astring told_astring
tells-astring = record { tells = either_tells (tells-as_it_is (passes-some is_astring_char)) tells-string }

-- the texts of one value
pub passes-value : {P : Bytes → Texts} {test : (Bytes → Bool) → Bytes → Bool} → Tells P test → (b : Bytes) → Passes (P b) (test (same_as b))
passes-value h b = record { passes = λ c x. h.tells (same_as b) b c x (same_self b) }

-- ---- texts, options, lists

abbrev pub is_ascii : Bytes → Bool
is_ascii b = list_all (λ x. nat_lt x 128) b

ascii_from : (b : Bytes) → is_ascii b ≡ true → IsAscii b
ascii_from [] h = IsAscii-nil
ascii_from (x ∷ b) h = let small : nat_lt x 128 ≡ true = (and_parts _ _ h).0 in IsAscii-cons x b (search arith) (ascii_from b (and_parts _ _ h).1)

pub ascii_is : (b : Bytes) → is_ascii b ≡ true → utf8_lossy b ≡ b
ascii_is b is = utf8_lossy-IsUtf8 b (IsUtf8-from_ascii b (ascii_from b is))

-- bytes that are ASCII stand for themselves; of others nothing is said
abbrev pub may_decode : (Bytes → Bool) → Bytes → Bool
may_decode k b = not (is_ascii b) || k b

decodes : (k : Bytes → Bool) (b : Bytes) → k (utf8_lossy b) ≡ true → (ascii : Bool) → is_ascii b ≡ ascii → (not ascii || k b) ≡ true
decodes k b h false is = refl
decodes k b h true is = subst (λ z. k z ≡ true) (ascii_is b is) h

-- what spells a text tells its bytes
pub tells-lossy : {P : Bytes → Texts} {test : (Bytes → Bool) → Bytes → Bool} → Tells P test → (k : Bytes → Bool) (t : Text) (c : Bytes) → lossily P t c → k t.bytes ≡ true → test (may_decode k) c ≡ true
tells-lossy h k t c x y = h.tells (may_decode k) x.0 c x.1 (decodes k x.0 (subst (λ z. k z ≡ true) (sym x.2) y) (is_ascii x.0) refl)

pub passes-lossy : {P : Bytes → Texts} {test : (Bytes → Bool) → Bytes → Bool} → Tells P test → (t : Text) → Passes (lossily P t) (test (may_decode (same_as t.bytes)))
passes-lossy h t = record { passes = λ c x. tells-lossy h (same_as t.bytes) t c x (same_self t.bytes) }

pub passes-maybe : {P : Texts} {p : Bytes → Bool} → Passes P p → Passes (maybe P) (λ c. same_as [] c || p c)
passes-maybe h = passes-this [] orᵖ h

-- ---- a text behind one character

-- what stands behind the first character is the bytes of the characters behind it
behind_one : (bytes rest : Bytes) (c : ℕ) → IsUtf8 bytes → bytes ≡ encode_utf8 c ++ rest → rest ≡ encode_utf8_all (drop 1 (chars bytes))
behind_one bytes rest c u e = sym (encodes-chars rest (IsUtf8-past_char bytes rest c u e)) ∙ ap (λ cs. encode_utf8_all (drop 1 cs)) (sym (chars_past_char bytes rest c u e))

-- one byte and the text, where the bytes are ASCII
abbrev pub one_before : Bytes → Bytes → Bool
one_before text [] = true
one_before text (b ∷ c) = same_as text c

pub one_is_before : (text c : Bytes) (first : ℕ) → is_ascii c ≡ true → c ≡ encode_utf8 first ++ text → one_before text c ≡ true
one_is_before text [] first ascii e = refl
one_is_before text (b ∷ c) first ascii e =
    let small : nat_lt b 128 ≡ true = (and_parts _ _ ascii).0 in
    let utf8 = IsUtf8-from_ascii (b ∷ c) (ascii_from (b ∷ c) ascii) in
    let alone : b ∷ c ≡ encode_utf8 b ++ c = ap (λ z. z ++ c) (sym (encode_ascii b (search arith))) in
    subst (λ z. same_as z c ≡ true) (behind_one (b ∷ c) c b utf8 alone ∙ sym (behind_one (b ∷ c) text first utf8 e)) (same_self c)
