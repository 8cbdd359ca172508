-- The lossy text of quoted content is quoted content.
use Rattle.std.proofs.Common.{◌≡◌, ℕ, ◌<◌, true, false, not, ◌==◌, List, [], ◌∷◌, ◌++◌, length, take, sym, ◌∙◌, ap, subst, refl, inl, inr, ◌⊎◌, arith, append_assoc, codes, encode_utf8_all, length-append}
use Rattle.std.proofs.lemmas.Bool.{and_parts, both_ways, not-true, cases_eq, cases_Bool}
use Rattle.std.proofs.lemmas.Bool.Decides.{nat_tests}
use Rattle.std.proofs.lemmas.List.{append_cancel_right}
use Rattle.std.proofs.lemmas.Str.{encode_ascii, encodes-append, utf8_lossy_step, utf8_lossy-IsUtf8, utf8_lossy_empty}
use Rattle.std.specs.List.{list_all}
use Rattle.std.specs.Str.{all_scalars}
use Rattle.std.specs.Str.Lossy.{utf8_lossy, utf8_valid_len, replacement_bytes, after_first_chunk}
use lib.Utf8.{encode}
use Rattle.bstr.specs.Utf8.{lossy_chars, continues}
use Rattle.bstr.proofs.lemmas.PieceLemmas.{StartsClean}
use Rattle.bstr.proofs.lemmas.LossyLemmas.{lossy_chars-utf8_lossy, lossy_chars-front}
use Rattle.imap_grammar.specs.Classes.{is_quoted_char}
use Rattle.imap_grammar.specs.Meaning.{Denies, is_word, begins, outside, Cuts, differs}
use Rattle.imap_grammar.specs.Rule.{meaning, ◌◃◌}
use Rattle.imap_grammar.specs.Text.{Bytes, Text, lent_text}
use Rattle.imap_grammar.specs.Tags.{tag}
use Rattle.imap_grammar.specs.Pieces.{quoted_text}
use Rattle.imap_grammar.specs.ReadBack.{ReadsBack, Any}
use Rattle.imap_grammar.proofs.Reading.{raw_on, tag-on, after-has, after-on, before-has, before-on}
use Rattle.imap_grammar.proofs.ReadingWords.{exact}
use Rattle.imap_bytes.specs.Strings.{quoted_part, quoted_content, quoted}
use Rattle.imap_bytes.specs.Texts.{quoted_utf8}
use Rattle.imap_bytes.proofs.ReadingTexts.{decoded_twice}
use Rattle.imap_bytes.proofs.LossyTwice.{all-lossy, all_valid}
use Rattle.imap_bytes.proofs.LossyParts.{lossy-append}

lossy-front : (cs rest : List ℕ) → all_scalars cs ≡ true → utf8_lossy (encode_utf8_all cs ++ rest) ≡ encode_utf8_all cs ++ utf8_lossy rest
lossy-front cs rest h =
    sym (lossy_chars-utf8_lossy (encode_utf8_all cs ++ rest)) ∙ ap encode_utf8_all (lossy_chars-front cs rest h)
    ∙ encodes-append cs (lossy_chars rest) ∙ ap (λ l. encode_utf8_all cs ++ l) (lossy_chars-utf8_lossy rest)

scalar : (b : ℕ) → b < 128 → all_scalars (b ∷ []) ≡ true
scalar b h = grind (arith, nat_tests)

-- a byte of ASCII stays
pub lossy_ascii : (b : ℕ) (rest : List ℕ) → b < 128 → utf8_lossy (b ∷ rest) ≡ b ∷ utf8_lossy rest
lossy_ascii b rest small =
    let one : encode_utf8_all (b ∷ []) ≡ b ∷ [] = ap (λ l. l ++ []) (encode_ascii b small) in
    subst (λ c. utf8_lossy (c ++ rest) ≡ c ++ utf8_lossy rest) one (lossy-front (b ∷ []) rest (scalar b small))

pub lossy_some : (bs : List ℕ) → 0 < length bs → 0 < length (utf8_lossy bs)
lossy_some bs some = elim (cases_eq (utf8_valid_len bs) (length bs)) [
  | inl whole ↦ subst (λ l. 0 < length l) (sym (utf8_lossy-IsUtf8 bs (all_valid bs whole))) some
  | inr fault ↦ subst (λ l. 0 < length l) (sym (utf8_lossy_step bs fault))
      (omega (arith, length-append (take (utf8_valid_len bs) bs) (replacement_bytes ++ utf8_lossy (after_first_chunk bs))))
]

-- the parts one after another
abbrev pub joined : List Bytes → Bytes
joined [] = []
joined (p ∷ ps) = p ++ joined ps

-- a part is plain, or one of the pairs
part-has : (m p mid : Bytes) → (meaning quoted_part).yields m p mid → (m ≡ p ++ mid)
    × (((list_all is_quoted_char p ≡ true) × (begins (outside is_quoted_char) mid ≡ true) × (0 < length p)) ⊎ ((p ≡ 92 ∷ 92 ∷ []) ⊎ (p ≡ 92 ∷ 34 ∷ [])))
unfolding meaning quoted_part
part-has m p mid (inl y) = (y.0.0, inl (y.0.1, y.0.2, y.1))
part-has m p mid (inr (d, inl y)) = (y.0, inr (inl (sym (exact (92 ∷ 92 ∷ []) p y.1))))
part-has m p mid (inr (d, inr (e, y))) = (y.0, inr (inr (sym (exact (92 ∷ 34 ∷ []) p y.1))))

pair-lossy : (b : ℕ) (rest : List ℕ) → (b ≡ 92) ⊎ (b ≡ 34) → utf8_lossy (92 ∷ b ∷ rest) ≡ 92 ∷ b ∷ utf8_lossy rest
unfolding encode
pair-lossy b rest (inl e) = subst (λ x. utf8_lossy (92 ∷ x ∷ rest) ≡ 92 ∷ x ∷ utf8_lossy rest) (sym e) (lossy-front (92 ∷ 92 ∷ []) rest refl)
pair-lossy b rest (inr e) = subst (λ x. utf8_lossy (92 ∷ x ∷ rest) ≡ 92 ∷ x ∷ utf8_lossy rest) (sym e) (lossy-front (92 ∷ 34 ∷ []) rest refl)

nil-lossy : utf8_lossy [] ≡ []
nil-lossy = utf8_lossy_empty [] refl

-- content begins with no continuation where it begins with no plain byte
clean : (x : ℕ) → not (is_quoted_char x) ≡ true → continues x ≡ false
clean x h = elim (cases_Bool (continues x)) [ inl yes_ ↦ absurd (grind (arith, nat_tests)) | inr no_ ↦ no_ ]

abbrev NotPlain : Bytes → Type 0
NotPlain m = begins (outside is_quoted_char) m ≡ true

-- what stands behind a run of plain bytes
behind : (ps : List Bytes) (m rest t : Bytes) → Cuts (meaning quoted_part) m ps rest → NotPlain m → StartsClean (joined ps) × NotPlain (utf8_lossy (joined ps) ++ 34 ∷ t)
behind [] m rest t y h = (λ some. absurd (omega arith), subst (λ l. NotPlain (l ++ 34 ∷ t)) (sym nil-lossy) refl)
behind (p ∷ ps) m rest t y h = go (part-has m p y.0 y.1).1
  where
    input : m ≡ p ++ y.0
    input = (part-has m p y.0 y.1).0

    pair : (b : ℕ) → (b ≡ 92) ⊎ (b ≡ 34) → p ≡ 92 ∷ b ∷ [] → StartsClean (p ++ joined ps) × NotPlain (utf8_lossy (p ++ joined ps) ++ 34 ∷ t)
    pair b which e =
        subst (λ q. StartsClean (q ++ joined ps) × NotPlain (utf8_lossy (q ++ joined ps) ++ 34 ∷ t)) (sym e)
        (λ some. refl, subst (λ l. NotPlain (l ++ 34 ∷ t)) (sym (pair-lossy b (joined ps) which)) refl)

    plain : (q : Bytes) → list_all is_quoted_char q ≡ true → 0 < length q → NotPlain (q ++ y.0) → ⊥
    plain [] all some n = absurd (omega arith)
    plain (x ∷ q) all some n = both_ways (is_quoted_char x) (not-true _ n) (and_parts _ _ all).0

    go : ((list_all is_quoted_char p ≡ true) × NotPlain y.0 × (0 < length p)) ⊎ ((p ≡ 92 ∷ 92 ∷ []) ⊎ (p ≡ 92 ∷ 34 ∷ [])) → StartsClean (p ++ joined ps) × NotPlain (utf8_lossy (p ++ joined ps) ++ 34 ∷ t)
    go (inl run) = absurd (plain p run.0 run.2 (subst NotPlain input h))
    go (inr (inl e)) = pair 92 (inl refl) e
    go (inr (inr e)) = pair 34 (inr refl) e

run-on : (q rest : Bytes) → list_all is_quoted_char q ≡ true → 0 < length q → NotPlain rest → (meaning quoted_part).yields (q ++ rest) q rest
unfolding meaning quoted_part
run-on q rest all some n = inl ((refl, all, n), some)

pair-on : (b : ℕ) (rest : Bytes) → (b ≡ 92) ⊎ (b ≡ 34) → (meaning quoted_part).yields (92 ∷ b ∷ rest) (92 ∷ b ∷ []) rest
unfolding meaning quoted_part
pair-on b rest (inl e) = inr (refl, inl (refl, subst (λ x. is_word ◌==◌ (92 ∷ 92 ∷ []) (92 ∷ x ∷ []) ≡ true) (sym e) refl))
pair-on b rest (inr e) = inr (refl, inr (subst (λ x. differs ◌==◌ (92 ∷ 92 ∷ []) (92 ∷ x ∷ rest) ≡ true) (sym e) refl, (refl, subst (λ x. is_word ◌==◌ (92 ∷ 34 ∷ []) (92 ∷ x ∷ []) ≡ true) (sym e) refl)))

abbrev Requoted : Bytes → Bytes → Type 0
Requoted content t = (qs : List Bytes) × Cuts (meaning quoted_part) (content ++ 34 ∷ t) qs (34 ∷ t)

-- one part more
more : (p rest t : Bytes) → (meaning quoted_part).yields (p ++ (rest ++ 34 ∷ t)) p (rest ++ 34 ∷ t) → Requoted rest t → Requoted (p ++ rest) t
more p rest t y r = (p ∷ r.0, (rest ++ 34 ∷ t, subst (λ l. (meaning quoted_part).yields l p (rest ++ 34 ∷ t)) (sym (append_assoc p rest (34 ∷ t))) y, r.1))

requoted : (ps : List Bytes) (m rest t : Bytes) → Cuts (meaning quoted_part) m ps rest → Requoted (utf8_lossy (joined ps)) t
requoted [] m rest t y = subst (λ l. Requoted l t) (sym nil-lossy) ([], refl)
requoted (p ∷ ps) m rest t y = go (part-has m p y.0 y.1).1 (requoted ps y.0 rest t y.2) (behind ps y.0 rest t y.2)
  where
    pair : (b : ℕ) → (b ≡ 92) ⊎ (b ≡ 34) → p ≡ 92 ∷ b ∷ [] → Requoted (utf8_lossy (joined ps)) t → Requoted (utf8_lossy (p ++ joined ps)) t
    pair b which e r =
        subst (λ q. Requoted (utf8_lossy (q ++ joined ps)) t) (sym e)
        (subst (λ l. Requoted l t) (sym (pair-lossy b (joined ps) which)) (more (92 ∷ b ∷ []) (utf8_lossy (joined ps)) t (pair-on b _ which) r))

    go : ((list_all is_quoted_char p ≡ true) × NotPlain y.0 × (0 < length p)) ⊎ ((p ≡ 92 ∷ 92 ∷ []) ⊎ (p ≡ 92 ∷ 34 ∷ [])) → Requoted (utf8_lossy (joined ps)) t
        → (NotPlain y.0 → StartsClean (joined ps) × NotPlain (utf8_lossy (joined ps) ++ 34 ∷ t)) → Requoted (utf8_lossy (p ++ joined ps)) t
    go (inl run) r h =
        subst (λ l. Requoted l t) (sym (lossy-append p (joined ps) (h run.1).0))
        (more (utf8_lossy p) (utf8_lossy (joined ps)) t (run-on (utf8_lossy p) _ (all-lossy is_quoted_char p refl run.0) (lossy_some p run.2) (h run.1).1) r)
    go (inr (inl e)) r h = pair 92 (inl refl) e r
    go (inr (inr e)) r h = pair 34 (inr refl) e r

quote_ends : (t : Bytes) → Denies (meaning quoted_part) (34 ∷ t)
unfolding meaning quoted_part
quote_ends t = inr (refl, inr (refl, refl))

-- what cuts took
pub taken : (ps : List Bytes) (m rest : Bytes) → Cuts (meaning quoted_part) m ps rest → m ≡ joined ps ++ rest
taken [] m rest y = y
taken (p ∷ ps) m rest y = (part-has m p y.0 y.1).0 ∙ ap (λ l. p ++ l) (taken ps y.0 rest y.2) ∙ sym (append_assoc p (joined ps) rest)

-- the lossy text of content is content
content_again : (m content rest : Bytes) → (meaning quoted_content).yields m content rest → (t : Bytes) → (meaning quoted_content).yields (utf8_lossy content ++ 34 ∷ t) (utf8_lossy content) (34 ∷ t)
unfolding meaning quoted_content
content_again m content rest y t =
    let parts : joined y.0 ≡ content = append_cancel_right (joined y.0) content rest (sym (taken y.0 m rest y.1.0) ∙ y.2) in
    let again : Requoted (utf8_lossy content) t = subst (λ l. Requoted (utf8_lossy l) t) parts (requoted y.0 m rest t y.1.0) in
    (again.0, (again.1, quote_ends t), refl)

pub quoted_again : (m content rest : Bytes) → (meaning quoted).yields m content rest → (t : Bytes) → (meaning quoted).yields (34 ∷ (utf8_lossy content ++ 34 ∷ t)) (utf8_lossy content) t
unfolding quoted
quoted_again m content rest y t =
    let inner = after-has _ (quoted_content ◃ tag "\"") m content rest y in
    let part = before-has quoted_content _ inner.0 content rest inner.1 in
    let lossy = utf8_lossy content in
    after-on (tag "\"") (quoted_content ◃ tag "\"") _ (34 ∷ []) _ lossy t (tag-on ◌==◌ (codes "\"") (34 ∷ []) _ refl)
    (before-on quoted_content (tag "\"") _ lossy (34 ∷ t) (34 ∷ []) t (content_again inner.0 content part.0 part.1 t) (tag-on ◌==◌ (codes "\"") (34 ∷ []) t refl))

-- a text in quotes reads as itself
pub reads-quoted_utf8 : ReadsBack quoted_utf8 lent_text quoted_text Any
unfolding meaning quoted_utf8
reads-quoted_utf8 = record {
  again = λ m v rest y f t g.
      let text : utf8_lossy y.0 ≡ v.bytes = ap (λ (x : Text). x.bytes) y.2 in
      let path : (34 ∷ ((v.bytes ++ 34 ∷ []) ++ [])) ++ t ≡ 34 ∷ (v.bytes ++ 34 ∷ t) = raw_on (34 ∷ (v.bytes ++ 34 ∷ [])) t ∙ ap (λ l. 34 ∷ l) (append_assoc v.bytes (34 ∷ []) t) in (
        v.bytes,
        subst (λ l. (meaning quoted).yields l v.bytes t) (sym path) (subst (λ b. (meaning quoted).yields (34 ∷ (b ++ 34 ∷ t)) b t) text (quoted_again m y.0 rest y.1 t)),
        decoded_twice y.0 v y.2,
      );
}
