-- Where strings have no escape; and why a loop that drops each `\` and keeps the byte behind it undoes them.
use Rattle.std.proofs.Common.{◌≡◌, ◌≢◌, ℕ, zero, suc, ◌+◌, ◌-◌, ◌<◌, Bool, true, false, not, [], ◌∷◌, ◌++◌, length, take, drop, get_or, refl, sym, ap, ◌∙◌, arith, drop-cons, add-one, append_assoc}
use Rattle.std.specs.Prelude.{◌==◌, ◌&&◌, ◌||◌, if◌then◌else◌}
use Rattle.std.proofs.lemmas.Bool.{eqb-true, ne_eqb}
use Rattle.std.proofs.lemmas.List.{drop-drop, take-append-drop}
use Rattle.imap_grammar.specs.Ascii.{quote, backslash}
use Rattle.imap_grammar.specs.Meaning.{begins}
use Rattle.imap_grammar.specs.Positions.{named_in}
use Rattle.imap_grammar.specs.Text.{Bytes, Text, as_text, decoded}
use Rattle.imap_grammar.specs.declared.at.span.Span.{Span}
use Rattle.imap_body_types.specs.BodyValues.{boxed_seen}
use Rattle.imap_body_types.specs.Spans.{Lookup, bytes_in, text_in}
use Rattle.imap_body_types.specs.declared.spans.SpannedText.{SpannedText}
use Rattle.imap_body_types.specs.declared.spans.SpannedText.TheVariants as spanned
use Rattle.imap_body.specs.AttributeValues.{AttributeSpans, attribute_seen, parts_in}
use Rattle.imap_body.specs.Unescaped.{unescaped, has_backslash, is_quoted, is_escaped, unescaped_string, unescaped_bytes, unescaped_text, parts_unescaped, HasNoEscape}

-- ---- a string without an escape

pub stands : (escaped : Bool) (undone bytes : Text) → escaped ≡ false → (if escaped then undone else bytes) ≡ bytes
stands true undone bytes h = absurd cc
stands false undone bytes h = refl

-- a part of bytes without a `\` has none either
none_of_more : (v w k : Bool) → (v || w) ≡ false → (w ≡ false → k ≡ false) → (v || k) ≡ false
none_of_more true w k h part = absurd cc
none_of_more false w k h part = part h

none_taken : (k : ℕ) (m : Bytes) → has_backslash m ≡ false → has_backslash (take k m) ≡ false
none_taken zero m h = refl
none_taken (suc k) [] h = refl
none_taken (suc k) (b ∷ m) h = none_of_more (b == backslash) (has_backslash m) (has_backslash (take k m)) h (none_taken k m)

first_taken : (k : ℕ) (m : Bytes) → begins (λ b. b == quote) (take k m) ≡ true → (k ≢ 0) × (m ≡ quote ∷ drop 1 m)
first_taken zero m h = absurd cc
first_taken (suc k) [] h = absurd cc
first_taken (suc k) (b ∷ m) h = (λ e. cc, ap (λ x. x ∷ m) (eqb-true b quote h))

-- no string of such bytes has an escape
none_behind : (m : Bytes) (s : Span) (quoted : Bool) → HasNoEscape m → is_quoted (named_in m) s ≡ quoted → (quoted && has_backslash (named_in m s)) ≡ false
none_behind m s false none h = refl
none_behind m s true none h =
    let first = first_taken (s.start - (s.start - 1)) (drop (s.start - 1) m) h in
    let from : drop 1 (drop (s.start - 1) m) ≡ drop s.start m = drop-drop 1 (s.start - 1) m ∙ ap (λ p. drop p m) (omega (arith, first.0)) in
    let split : m ≡ take (s.start - 1) m ++ quote ∷ drop s.start m = sym (take-append-drop (s.start - 1) m) ∙ ap (λ x. take (s.start - 1) m ++ x) (first.1 ∙ ap (λ x. quote ∷ x) from) in
    none_taken (s.end - s.start) (drop s.start m) (none (take (s.start - 1) m) (drop s.start m) split)

pub none_escaped : (m : Bytes) → HasNoEscape m → (s : Span) → is_escaped (named_in m) s ≡ false
none_escaped m none s = none_behind m s (is_quoted (named_in m) s) none refl

-- ---- the loop

-- What is left of the content, behind a `\` that was dropped or not, without its escapes.
abbrev pub unescaped_behind : Bool → Bytes → Bytes
unescaped_behind false left = unescaped left
unescaped_behind true [] = []
unescaped_behind true (b ∷ left) = b ∷ unescaped left

pub first_unescaped : (b : ℕ) (left : Bytes) → unescaped (b ∷ left) ≡ (if b == backslash then unescaped_behind true left else b ∷ unescaped left)
first_unescaped b [] = refl
first_unescaped b (c ∷ left) = refl

-- whether a byte is dropped, where that before it was or not
abbrev pub is_dropped : Bool → ℕ → Bool
is_dropped dropped b = (b == backslash) && not dropped

pub other_stays : (b : ℕ) (dropped : Bool) → (b ≡ backslash → ⊥) → (b == backslash) ≡ is_dropped dropped b
other_stays b dropped other = rw (ne_eqb b backslash other) refl

abbrev pub kept_of : Bool → ℕ → Bytes
kept_of dropped b = if dropped then [] else b ∷ []

one_further : (dropped : Bool) (b : ℕ) (left : Bytes) → unescaped_behind dropped (b ∷ left) ≡ kept_of (is_dropped dropped b) b ++ unescaped_behind (is_dropped dropped b) left
one_further true b left = elim (b == backslash) as (λ v. b ∷ unescaped left ≡ kept_of (v && false) b ++ unescaped_behind (v && false) left) [ true ↦ refl | false ↦ refl ]
one_further false b left = first_unescaped b left ∙ elim (b == backslash) as (λ v. (if v then unescaped_behind true left else b ∷ unescaped left) ≡ kept_of (v && true) b ++ unescaped_behind (v && true) left) [ true ↦ refl | false ↦ refl ]

-- one more byte of the loop
pub one_more : (kept more : Bytes) (dropped now : Bool) (m : Bytes) (i : ℕ) → i < length m → now ≡ is_dropped dropped (get_or m i 0) → more ≡ kept ++ kept_of now (get_or m i 0)
    → kept ++ unescaped_behind dropped (drop i m) ≡ unescaped m → more ++ unescaped_behind now (drop (i + 1) m) ≡ unescaped m
one_more kept more dropped now m i within is further before =
    let b = get_or m i 0 in
    let left = drop (i + 1) m in
    let e : drop i m ≡ b ∷ left = rw add-one (drop-cons m i 0 within) in
    rw further (append_assoc kept (kept_of now b) (unescaped_behind now left) ∙ ap (λ x. kept ++ x) (rw is (sym (one_further dropped b left))) ∙ ap (λ x. kept ++ unescaped_behind dropped x) (sym e) ∙ before)

-- ---- an attribute without an escape

strings_stand : (say : Bytes → Text) (n : Lookup) (s : Span) → is_escaped n s ≡ false → unescaped_string say n s ≡ say (n s)
strings_stand say n s none = stands (is_escaped n s) _ _ none

texts_stand : (n : Lookup) → ((s : Span) → is_escaped n s ≡ false) → (t : SpannedText) → unescaped_text n t ≡ text_in n t
texts_stand n none (spanned.Part s) = strings_stand decoded n s (none s)
texts_stand n none spanned.Text = refl
texts_stand n none spanned.Message = refl
texts_stand n none spanned.Rfc822 = refl
texts_stand n none spanned.Multipart = refl

pub parts_stand : (m : Bytes) (x : AttributeSpans) → HasNoEscape m → parts_unescaped (named_in m) x ≡ parts_in (named_in m) x
parts_stand m x h =
    let n : Lookup = named_in m in
    let none = none_escaped m h in
    let texts : unescaped_text n ≡ text_in n = λ i t. texts_stand n none t i in
    let bytes : unescaped_bytes n ≡ bytes_in n = λ i s. strings_stand as_text n s (none s) i in
    λ i. attribute_seen (texts i) (bytes i) (λ b. boxed_seen (texts i) (bytes i) b) x
