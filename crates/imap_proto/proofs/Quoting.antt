-- A quoted argument is a quoted string. Its content is cut into runs of quoted-chars, as long as they go, and pairs.
use Rattle.std.proofs.Common.{◌≡◌, ℕ, Bool, true, false, cond, ◌==◌, ◌||◌, List, [], ◌∷◌, ◌++◌, codes, All, sym, ap, subst, ◌∙◌, refl, inl, inr, ◌⊎◌, append_assoc, arith}
use Rattle.std.specs.Prelude.{if◌then◌else◌}
use Rattle.std.specs.List.{flat_map, list_all}
use Rattle.std.proofs.lemmas.Bool.{and_from, or_cases, eqb-true, ne_eqb}
use Rattle.std.proofs.lemmas.List.Elements.{All-head, All-tail}
use Rattle.imap_grammar.specs.Classes.{is_quoted_char}
use Rattle.imap_grammar.specs.Meaning.{Denies, is_word, differs, begins, outside, Cuts}
use Rattle.imap_grammar.specs.Rule.{meaning, ◌◃◌}
use Rattle.imap_grammar.specs.Tags.{tag}
use Rattle.imap_grammar.specs.Text.{Bytes}
use Rattle.imap_grammar.proofs.Reading.{tag-on, after-on, before-on}
use Rattle.imap_grammar.proofs.ReadingWords.{exact}
use Rattle.imap_bytes.specs.Strings.{quoted_part, quoted_content, quoted}
use Rattle.imap_command.specs.Arguments.{escaped_byte}
use Rattle.imap_command.specs.OneLine.{StaysInLine}
use Rattle.imap_body.specs.Unescaped.{unescaped}
use Rattle.imap_body.proofs.Escapes.{first_unescaped}
use Rattle.imap_proto.specs.Quoting.{QuotedIsRead, QuotedIsUnescaped}

abbrev NotPlain : Bytes → Type 0
NotPlain m = begins (outside is_quoted_char) m ≡ true

abbrev IsRun : Bytes → Bytes → Type 0
IsRun p mid = (list_all is_quoted_char p ≡ true) × NotPlain mid

-- a part is a run, or one of the pairs
part_is : (m p mid : Bytes) → (meaning quoted_part).yields m p mid → (m ≡ p ++ mid) × (IsRun p mid ⊎ ((p ≡ 92 ∷ 92 ∷ []) ⊎ (p ≡ 92 ∷ 34 ∷ [])))
unfolding meaning quoted_part
part_is m p mid (inl y) = (y.0.0, inl (y.0.1, y.0.2))
part_is m p mid (inr (d, inl y)) = (y.0, inr (inl (sym (exact (92 ∷ 92 ∷ []) p y.1))))
part_is m p mid (inr (d, inr (e, y))) = (y.0, inr (inr (sym (exact (92 ∷ 34 ∷ []) p y.1))))

run_on : (b : ℕ) (q rest : Bytes) → list_all is_quoted_char (b ∷ q) ≡ true → NotPlain rest → (meaning quoted_part).yields (b ∷ (q ++ rest)) (b ∷ q) rest
unfolding meaning quoted_part
run_on b q rest all ends = inl ((refl, all, ends), omega arith)

pair_on : (b : ℕ) (rest : Bytes) → (b ≡ 34) ⊎ (b ≡ 92) → (meaning quoted_part).yields (92 ∷ b ∷ rest) (92 ∷ b ∷ []) rest
unfolding meaning quoted_part
pair_on b rest (inl e) = inr (refl, inr (subst (λ x. differs ◌==◌ (92 ∷ 92 ∷ []) (92 ∷ x ∷ rest) ≡ true) (sym e) refl, (refl, subst (λ x. is_word ◌==◌ (92 ∷ 34 ∷ []) (92 ∷ x ∷ []) ≡ true) (sym e) refl)))
pair_on b rest (inr e) = inr (refl, inl (refl, subst (λ x. is_word ◌==◌ (92 ∷ 92 ∷ []) (92 ∷ x ∷ []) ≡ true) (sym e) refl))

abbrev Parts : Bytes → Bytes → Type 0
Parts m rest = (ps : List Bytes) × Cuts (meaning quoted_part) m ps rest

-- a quoted-char more: in front of a run it belongs to that
plain_more : (b : ℕ) (m rest : Bytes) (ps : List Bytes) → is_quoted_char b ≡ true → NotPlain rest → Cuts (meaning quoted_part) m ps rest → Parts (b ∷ m) rest
plain_more b m rest [] plain ends y =
    ((b ∷ []) ∷ [], (rest, subst (λ l. (meaning quoted_part).yields (b ∷ l) (b ∷ []) rest) (sym y) (run_on b [] rest (and_from _ _ plain refl) ends), refl))
plain_more b m rest (p ∷ ps) plain ends y = go (part_is m p y.0 y.1)
  where
    pair : (x : ℕ) → m ≡ p ++ y.0 → p ≡ 92 ∷ x ∷ [] → Parts (b ∷ m) rest
    pair x e is =
        let begun : NotPlain m = subst NotPlain (sym (e ∙ ap (λ l. l ++ y.0) is)) refl in
        ((b ∷ []) ∷ p ∷ ps, (m, run_on b [] m (and_from _ _ plain refl) begun, y))

    go : (m ≡ p ++ y.0) × (IsRun p y.0 ⊎ ((p ≡ 92 ∷ 92 ∷ []) ⊎ (p ≡ 92 ∷ 34 ∷ []))) → Parts (b ∷ m) rest
    go (e, inl run) =
        ((b ∷ p) ∷ ps, (y.0, subst (λ l. (meaning quoted_part).yields (b ∷ l) (b ∷ p) y.0) (sym e) (run_on b p y.0 (and_from _ _ plain run.0) run.1), y.2))
    go (e, inr (inl is)) = pair 92 e is
    go (e, inr (inr is)) = pair 34 e is

is_plain : (b : ℕ) → StaysInLine b → (b == 34 || b == 92) ≡ false → is_quoted_char b ≡ true
is_plain b here other = rw (ne_eqb b 0 here.2, ne_eqb b 13 here.0, ne_eqb b 10 here.1, other) refl

is_special : (b : ℕ) → (b == 34 || b == 92) ≡ true → (b ≡ 34) ⊎ (b ≡ 92)
is_special b is = elim (or_cases (b == 34) (b == 92) is) [ inl e ↦ inl (eqb-true b 34 e) | inr e ↦ inr (eqb-true b 92 e) ]

-- one byte more
escaped_more : (b : ℕ) (content t : Bytes) → StaysInLine b → Parts (content ++ 34 ∷ t) (34 ∷ t) → Parts ((escaped_byte b ++ content) ++ 34 ∷ t) (34 ∷ t)
escaped_more b content t here later = go (b == 34 || b == 92) refl
  where
    go : (v : Bool) → (b == 34 || b == 92) ≡ v → Parts ((cond v (92 ∷ b ∷ []) (b ∷ []) ++ content) ++ 34 ∷ t) (34 ∷ t)
    go true is = ((92 ∷ b ∷ []) ∷ later.0, (content ++ 34 ∷ t, pair_on b _ (is_special b is), later.1))
    go false other = plain_more b (content ++ 34 ∷ t) (34 ∷ t) later.0 (is_plain b here other) refl later.1

parts_of : (argument t : Bytes) → All StaysInLine argument → Parts (flat_map escaped_byte argument ++ 34 ∷ t) (34 ∷ t)
parts_of [] t stays = ([], refl)
parts_of (b ∷ argument) t stays =
    escaped_more b (flat_map escaped_byte argument) t (All-head StaysInLine b argument stays) (parts_of argument t (All-tail StaysInLine b argument stays))

quote_ends : (t : Bytes) → Denies (meaning quoted_part) (34 ∷ t)
unfolding meaning quoted_part
quote_ends t = inr (refl, inr (refl, refl))

content_read : (argument t : Bytes) → All StaysInLine argument → (meaning quoted_content).yields (flat_map escaped_byte argument ++ 34 ∷ t) (flat_map escaped_byte argument) (34 ∷ t)
unfolding meaning quoted_content
content_read argument t stays = let parts = parts_of argument t stays in (parts.0, (parts.1, quote_ends t), refl)

pub quoted_is_read : QuotedIsRead
unfolding quoted
quoted_is_read argument t stays =
    let content : Bytes = flat_map escaped_byte argument in
    subst (λ l. (meaning quoted).yields (34 ∷ l) content t) (sym (append_assoc content (34 ∷ []) t))
    (after-on (tag "\"") (quoted_content ◃ tag "\"") _ (34 ∷ []) _ content t (tag-on ◌==◌ (codes "\"") (34 ∷ []) _ refl)
    (before-on quoted_content (tag "\"") _ content (34 ∷ t) (34 ∷ []) t (content_read argument t stays) (tag-on ◌==◌ (codes "\"") (34 ∷ []) t refl)))

-- ---- its content without the escapes

escape_undone : (is_quote is_backslash : Bool) (b : ℕ) (content escaped : Bytes) → (b == 92) ≡ is_backslash → unescaped escaped ≡ content
    → unescaped ((if is_quote || is_backslash then 92 ∷ b ∷ [] else b ∷ []) ++ escaped) ≡ b ∷ content
escape_undone true is_backslash b content escaped is behind = ap (λ x. b ∷ x) behind
escape_undone false true b content escaped is behind = ap (λ x. b ∷ x) behind
escape_undone false false b content escaped is behind = first_unescaped b escaped ∙ rw is (ap (λ x. b ∷ x) behind)

pub quoted_is_unescaped : QuotedIsUnescaped
quoted_is_unescaped [] = refl
quoted_is_unescaped (b ∷ argument) = escape_undone (b == 34) (b == 92) b argument (flat_map escaped_byte argument) refl (quoted_is_unescaped argument)
