-- Flags read back.
use Rattle.std.proofs.Common.{◌≡◌, ◌<◌, ◌==◌, ◌&&◌, true, false, not, [], ◌∷◌, ◌++◌, length, IsTrue, sym, ◌∙◌, ap, subst, refl, inl, inr, codes, map, arith}
use Rattle.std.proofs.lemmas.Bool.{false≢true, and_parts, and_from, or_cases, or_left, or_right, eqb-true}
use Rattle.std.proofs.lemmas.List.{append_cancel_right}
use Rattle.std.specs.List.{list_all}
use Rattle.std.specs.Str.{is_utf8}
use Rattle.imap_grammar.specs.Classes.{is_atom_char, is_astring_char}
use Rattle.imap_grammar.specs.Meaning.{differs, outside}
use Rattle.imap_grammar.specs.Rule.{meaning, run1}
use Rattle.imap_grammar.specs.Text.{Bytes, as_text, lent_text}
use Rattle.imap_grammar.specs.Tags.{tag}
use Rattle.imap_grammar.specs.Pieces.{raw, plain}
use Rattle.imap_grammar.specs.ReadBack.{ReadsBack, Spells, SpellsAndReadsBack, Any, BeginsWith, EndsItem, ends_item, as_is}
use Rattle.imap_grammar.proofs.Reading.{raw_on, test-has, test-on, run1-has, first, reads-gives, reads-word, denies-after, denies-tag, denials, ends_item-in, names-denied, tag-denied}
use Rattle.imap_grammar.proofs.ReadingWords.{exact, apart_byte, run-apart}
use Rattle.imap_grammar.proofs.ReadingLists.{reads-list_of}
use Rattle.imap_grammar.proofs.Yields.{Yields}
use Rattle.imap_grammar.proofs.Spelling.{◌orˢ◌, spells-gives, spells-wider, spells-test, spells-where, spells-names, spells-bytes, spells-taken, spells-utf8, spells-list_of}
use Rattle.imap_shared.specs.Flags.{backslashed, backslashed_text, keyword, flag, flag_perm, flag_text, flag_list}
use Rattle.imap_shared.specs.FlagTexts.{canonical_flag, canonical_flag_list, spells_flag, spells_flag_perm, spells_flag_list, is_flag_word, is_flag}

-- ---- a backslash and atom-chars

pub backslashed-has : (m v rest : Bytes) → (meaning backslashed).yields m v rest
    → (w : Bytes) × (v ≡ 92 ∷ w) × IsTrue (list_all is_atom_char w) × BeginsWith (outside is_atom_char) rest × (m ≡ v ++ rest)
unfolding meaning backslashed
backslashed-has m v rest y =
    let slash : 92 ∷ [] ≡ y.0.0 = exact (92 ∷ []) y.0.0 y.1.1.1 in
    let input : m ≡ (92 ∷ y.0.1) ++ rest = y.1.1.0 ∙ sym (ap (λ l. l ++ y.1.0) slash) ∙ ap (λ l. 92 ∷ l) y.1.2.0 in
    let text : v ≡ 92 ∷ y.0.1 = append_cancel_right v (92 ∷ y.0.1) rest (sym y.2 ∙ input) in
    (y.0.1, text, y.1.2.1, y.1.2.2, y.2)

pub backslashed_on : (w t : Bytes) → list_all is_atom_char w ≡ true → BeginsWith (outside is_atom_char) t → (meaning backslashed).yields ((92 ∷ w) ++ t) (92 ∷ w) t
unfolding meaning backslashed
backslashed_on w t all g = ((92 ∷ [], w), (w ++ t, (refl, refl), (refl, all, g)), refl)

pub reads_backslashed : ReadsBack backslashed as_is raw (BeginsWith (outside is_atom_char))
reads_backslashed = record {
  again = λ m v rest y f t g.
      let has = backslashed-has m v rest y in
      subst (λ l. (meaning backslashed).yields l v t) (sym (raw_on v t)) (subst (λ u. (meaning backslashed).yields (u ++ t) u t) (sym has.1) (backslashed_on has.0 t has.2 g));
}

-- ---- what a flag is

run_word : (v : Bytes) → list_all is_astring_char v ≡ true → 0 < length v → is_flag_word v ≡ true
run_word [] all some = absurd (omega arith)
run_word (b ∷ w) all some = or_right ((92 == b) && list_all is_atom_char w) (list_all is_astring_char (b ∷ w)) all

pub flag-is : (m v rest : Bytes) → (meaning flag).yields m v rest → is_flag v ≡ true
unfolding meaning flag backslashed_text keyword
flag-is m v rest (inl y) =
    let has = test-has is_utf8 backslashed m v rest y in
    let text = backslashed-has m v rest has.0 in
    and_from (is_utf8 v) (is_flag_word v) has.1 (subst (λ u. is_flag_word u ≡ true) (sym text.1) (or_left (list_all is_atom_char text.0) (list_all is_astring_char (92 ∷ text.0)) text.2))
flag-is m v rest (inr y) =
    let has = test-has is_utf8 (run1 is_astring_char) m v rest y.1 in
    let run = run1-has is_astring_char m v rest has.0 in
    and_from (is_utf8 v) (is_flag_word v) has.1 (run_word v run.1 run.3)

keyword_on : (v t : Bytes) → is_utf8 v ≡ true → list_all is_astring_char v ≡ true → 0 < length v → EndsItem t → (meaning flag).yields (v ++ t) v t
unfolding meaning flag backslashed_text backslashed keyword
keyword_on v t utf8 all some g =
    inr (
      inl (inl (run-apart is_astring_char 92 [] v t refl all some)),
      test-on is_utf8 (run1 is_astring_char) (v ++ t) v t ((refl, all, ends_item-in (outside is_astring_char) refl refl refl t g), some) utf8,
    )

slash_on : (w t : Bytes) → is_utf8 (92 ∷ w) ≡ true → list_all is_atom_char w ≡ true → EndsItem t → (meaning flag).yields ((92 ∷ w) ++ t) (92 ∷ w) t
unfolding meaning flag backslashed_text
slash_on w t utf8 all g = inl (test-on is_utf8 backslashed ((92 ∷ w) ++ t) (92 ∷ w) t (backslashed_on w t all (ends_item-in (outside is_atom_char) refl refl refl t g)) utf8)

pub flag_on : (v t : Bytes) → is_flag v ≡ true → EndsItem t → (meaning flag).yields (v ++ t) v t
flag_on [] t is g = absurd (false≢true (and_parts _ _ is).1)
flag_on (b ∷ w) t is g =
    let parts = and_parts (is_utf8 (b ∷ w)) (is_flag_word (b ∷ w)) is in
    elim (or_cases ((92 == b) && list_all is_atom_char w) (list_all is_astring_char (b ∷ w)) parts.1) [
      | inl slash ↦
          let both = and_parts (92 == b) (list_all is_atom_char w) slash in
          let first_byte : 92 ≡ b = eqb-true 92 b both.0 in
          subst (λ x. (meaning flag).yields ((x ∷ w) ++ t) (x ∷ w) t) first_byte (slash_on w t (subst (λ x. is_utf8 (x ∷ w) ≡ true) (sym first_byte) parts.0) both.1 g)
      | inr all ↦ keyword_on (b ∷ w) t parts.0 all (omega arith) g
    ]

pub reads_flag : ReadsBack flag as_is raw EndsItem
reads_flag = record { again = λ m v rest y f t g. subst (λ l. (meaning flag).yields l v t) (sym (raw_on v t)) (flag_on v t (flag-is m v rest y) g) }

pub flags_yield : Yields (λ v. is_flag v ≡ true) flag
flags_yield = record { each = flag-is }

-- ---- `\*`

star : (w rest t : Bytes) → differs ◌==◌ (42 ∷ []) (w ++ rest) ≡ true → EndsItem t → differs ◌==◌ (42 ∷ []) (w ++ t) ≡ true
star (b ∷ w) rest t d e = d
star [] rest [] d e = absurd (false≢true e)
star [] rest (b ∷ t) d e = or_left (not (42 == b)) false (apart_byte ends_item 42 b refl e)

-- what follows can't be any byte: `\` and then `*` would be read as `\*`
flag-star : (m v rest t : Bytes) → differs ◌==◌ (codes "\\*") m ≡ true → (meaning flag).yields m v rest → EndsItem t → differs ◌==◌ (codes "\\*") (v ++ t) ≡ true
unfolding meaning flag backslashed_text keyword
flag-star m v rest t d (inl y) e =
    let has = backslashed-has m v rest (test-has is_utf8 backslashed m v rest y).0 in
    let input : m ≡ 92 ∷ (has.0 ++ rest) = has.4 ∙ ap (λ l. l ++ rest) has.1 in
    subst (λ l. differs ◌==◌ (92 ∷ 42 ∷ []) (l ++ t) ≡ true) (sym has.1) (star has.0 rest t (subst (λ l. differs ◌==◌ (92 ∷ 42 ∷ []) l ≡ true) input d) e)
flag-star m v rest t d (inr y) e =
    let run = run1-has is_astring_char m v rest (test-has is_utf8 (run1 is_astring_char) m v rest y.1).0 in
    run-apart is_astring_char 92 (42 ∷ []) v t refl run.1 run.3

pub reads_flag_perm : ReadsBack flag_perm as_is raw EndsItem
unfolding flag_perm
reads_flag_perm =
    first (reads-word _ _ (codes "\\*") (codes "\\*") refl refl refl)
    (record {
      denied = λ m v rest d y f t g.
          denies-after _ _ _ (denies-tag _ _ _ (subst (λ l. differs ◌==◌ (codes "\\*") l ≡ true) (sym (raw_on v t)) (flag-star m v rest t (tag-denied _ _ m (names-denied (tag "\\*") (codes "\\*") m d)) y g)));
    })
    reads_flag

pub reads_flag_text : ReadsBack flag_text lent_text plain EndsItem
unfolding flag_text
reads_flag_text = reads-gives as_text reads_flag_perm (λ x. refl)

reads_flag_list : ReadsBack flag_list (map lent_text) canonical_flag_list Any
unfolding flag_list flag_text flag_perm flag backslashed_text backslashed keyword
reads_flag_list = reads-list_of reads_flag_text (λ t. refl) (λ t. refl) (λ t. search denials depth 20)

-- ---- spelling

pub flag_spells : Spells flag spells_flag
unfolding flag backslashed_text backslashed keyword
flag_spells =
    spells-where flags_yield
    (spells-test is_utf8 spells-taken orˢ spells-wider (spells-utf8 is_astring_char) (λ v c h. h.0)) (λ v c is h. (is, h))

pub flag_perm_spells : Spells flag_perm spells_flag_perm
unfolding flag_perm
flag_perm_spells =
    spells-names (codes "\\*") (spells-wider (spells-bytes (codes "\\*")) (λ v c h. inl (refl, h)))
    orˢ spells-wider flag_spells (λ v c h. inr h)

flag_list_spells : Spells flag_list spells_flag_list
unfolding flag_list flag_text
flag_list_spells = spells-list_of (spells-gives as_text flag_perm_spells)

pub keeps_flag : SpellsAndReadsBack flag as_is canonical_flag spells_flag EndsItem
keeps_flag = record { spelled = flag_spells; back = reads_flag }

pub keeps_flag_perm : SpellsAndReadsBack flag_perm as_is canonical_flag spells_flag_perm EndsItem
keeps_flag_perm = record { spelled = flag_perm_spells; back = reads_flag_perm }

pub keeps_flag_list : SpellsAndReadsBack flag_list (map lent_text) canonical_flag_list spells_flag_list Any
keeps_flag_list = record { spelled = flag_list_spells; back = reads_flag_list }
