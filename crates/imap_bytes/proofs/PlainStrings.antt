-- A quoted string whose content is quoted-chars alone.
use Rattle.std.proofs.Common.{◌≡◌, ◌≢◌, ℕ, ◌+◌, ◌<◌, true, List, [], ◌∷◌, length, drop, position, zero, suc, Some, Ok, refl, ap, ◌∙◌, arith}
use Rattle.std.specs.Prelude.{◌==◌, nat_lt, false}
use Rattle.std.proofs.lemmas.Bool.{eqb-true, le-ltb}
use Rattle.std.proofs.lemmas.List.{drop-drop}
use Rattle.imap_grammar.specs.Ascii.{quote}
use Rattle.imap_grammar.specs.Classes.{is_quoted_char}
use Rattle.imap_grammar.specs.Meaning.{begins, outside}
use Rattle.imap_grammar.specs.Positions.{between}
use Rattle.imap_grammar.specs.Rule.{opt}
use Rattle.imap_grammar.specs.Step.{Step, step, tag_step}
use Rattle.imap_grammar.specs.Tags.{tag}
use Rattle.imap_grammar.proofs.Loops.{After, after_start, after_more}
use Rattle.imap_grammar.proofs.Positions.{run1_at, raw_at}
use Rattle.imap_bytes.specs.Strings.{quoted_part, quoted_content, quoted, string}
use Rattle.imap_bytes.proofs.StringStarts.{no_part, string_quoted}

-- ---- its content

-- quoted-chars are one part
one_part : (m : List ℕ) (p n : ℕ) → n ≢ 0 → p + n < length m → Some n ≡ position (outside is_quoted_char) (drop p m) → step (opt quoted_part) (drop p m) ≡ Ok (drop (p + n) m, Some (between m p (p + n)))
unfolding quoted_part
one_part m p n some within is = rw (run1_at is_quoted_char m p n some within is) refl

so_far : (m : List ℕ) (p n : ℕ) → p + n < length m → Some n ≡ position (outside is_quoted_char) (drop p m) → After quoted_part (drop p m) (drop (p + n) m)
unfolding quoted_part
so_far m p zero within is = let e : p + zero ≡ p = omega arith in rw e (after_start quoted_part (drop p m))
so_far m p (suc n) within is = after_more quoted_part (drop p m) (drop p m) (drop (p + suc n) m) _ (after_start quoted_part (drop p m)) (one_part m p (suc n) (λ e. cc) within is) refl

plain_content : (m : List ℕ) (p n : ℕ) → p + n < length m → Some n ≡ position (outside is_quoted_char) (drop p m) → begins (λ b. b == quote) (drop (p + n) m) ≡ true
    → step quoted_content (drop p m) ≡ Ok (drop (p + n) m, between m p (p + n))
unfolding quoted_content
plain_content m p n within is closes = raw_at quoted_part m p (p + n) (p + n) (omega arith) (omega (arith, within)) (so_far m p n within is) (no_part _ closes)

-- ---- its quotes

at_quote : (m : List ℕ) (p : ℕ) → begins (λ b. b == quote) (drop p m) ≡ true → drop p m ≡ quote ∷ drop (p + 1) m
at_quote m p h = go (drop p m) (drop (p + 1) m) (drop-drop 1 p m) h
  where
    go : (i r : List ℕ) → drop 1 i ≡ r → begins (λ b. b == quote) i ≡ true → i ≡ quote ∷ r
    go [] r e h = absurd cc
    go (b ∷ i) r e h = ap (λ x. x ∷ i) (eqb-true b quote h) ∙ ap (λ x. quote ∷ x) e

quote_taken : (i : List ℕ) → step (tag "\"") (quote ∷ i) ≡ Ok (i, quote ∷ [])
unfolding tag_step
quote_taken i = let enough : nat_lt (suc (length i)) 1 ≡ false = le-ltb (suc (length i)) 1 (omega arith) in rw enough refl

in_quotes : (i r v : List ℕ) → step quoted_content i ≡ Ok (quote ∷ r, v) → step quoted (quote ∷ i) ≡ Ok (r, v)
unfolding quoted
in_quotes i r v h = rw (quote_taken i, h, quote_taken r) refl

read : List ℕ → List ℕ → Step (List ℕ)
read v rest = Ok (rest, v)

pub plain_string : (m : List ℕ) (p q : ℕ) → q < length m → begins (λ b. b == quote) (drop p m) ≡ true → begins (λ b. b == quote) (drop q m) ≡ true → (n : ℕ) → q ≡ (p + 1) + n → Some n ≡ position (outside is_quoted_char) (drop (p + 1) m)
    → step string (drop p m) ≡ Ok (drop (q + 1) m, between m (p + 1) q)
unfolding read
plain_string m p q within opens closes n far is =
    let v = between m (p + 1) q in
    let content : step quoted_content (drop (p + 1) m) ≡ Ok (drop q m, v) = rw far (plain_content m (p + 1) n (omega (arith, within, far)) is (rw far at closes)) in
    string_quoted (drop p m) opens ∙ ap (λ i. step quoted i) (at_quote m p opens) ∙ in_quotes (drop (p + 1) m) (drop (q + 1) m) v (content ∙ ap (read v) (at_quote m q closes))
