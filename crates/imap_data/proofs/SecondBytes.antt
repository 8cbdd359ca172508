-- Which attributes of a mailbox's name answer, by the byte behind their backslash.
use Rattle.std.proofs.Common.{◌≡◌, ◌≢◌, ◌⊎◌, ℕ, Bool, true, false, List, [], ◌∷◌, Some, None, Err, refl, sym, ap, ◌∙◌, inl, inr, codes}
use Rattle.std.specs.Prelude.{not, ◌&&◌, ◌==◌, slice_get}
use Rattle.std.specs.Char.{to_ascii_lowercase, to_ascii_uppercase}
use Rattle.std.proofs.lemmas.Bool.{both_ways, cases_Bool, and_parts, not-true, ne_eqb, eqb-true}
use Rattle.imap_grammar.specs.declared.answer.Err.TheVariants.{Error}
use Rattle.imap_grammar.specs.Rule.{Rule, tag_by, nothing, ◌▹◌, ◌or◌}
use Rattle.imap_grammar.specs.Step.{step, tag_step, run0_step}
use Rattle.imap_grammar.specs.Tags.{same_letter}
use Rattle.imap_grammar.proofs.ReadingWords.{letter}
use Rattle.imap_grammar.proofs.Starts.{waited, denied}
use Rattle.imap_shared.specs.Flags.{backslashed_text, backslashed}
use Rattle.imap_data.specs.Names.{NameAttributeValue, NoInferiors, NoSelect, Marked, Unmarked, All, Archive, Drafts, Flagged, Junk, Sent, Trash, name_attribute}
use Rattle.imap_data.specs.NameGroups.{extension, name_attribute_of_n, name_attribute_of_m_u, name_attribute_of_a, name_attribute_of_d_f_j, name_attribute_of_s_t}

-- words, each with its value
abbrev Words : Type 0
Words = List (List ℕ × NameAttributeValue)

abbrev choice : Words → Rule NameAttributeValue
choice [] = extension
choice (w ∷ words) = (tag_by same_letter w.0 ▹ nothing w.1) or choice words

abbrev has_second : List ℕ → ℕ → Bool
has_second (x ∷ y ∷ word) d = same_letter y d
has_second word d = true

abbrev keep : Bool → List ℕ × NameAttributeValue → Words → Words
keep true w words = w ∷ words
keep false w words = words

-- the words whose second byte is this one
abbrev kept : ℕ → Words → Words
kept d [] = []
kept d (w ∷ words) = keep (has_second w.0 d) w (kept d words)

denied_second : (w : List ℕ) (v : NameAttributeValue) (c d : ℕ) (m : List ℕ) → has_second w d ≡ false → step (tag_by same_letter w ▹ nothing v) (c ∷ d ∷ m) ≡ Err Error
unfolding tag_step
denied_second [] v c d m h = absurd cc
denied_second (x ∷ []) v c d m h = absurd cc
denied_second (x ∷ y ∷ w) v c d m h = by_first (same_letter x c) refl
  where
    by_first : (t : Bool) → same_letter x c ≡ t → step (tag_by same_letter (x ∷ y ∷ w) ▹ nothing v) (c ∷ d ∷ m) ≡ Err Error
    by_first true e = rw (e, h) refl
    by_first false e = rw e refl

keep_is : (w : List ℕ × NameAttributeValue) (words less : Words) (c d : ℕ) (m : List ℕ) (t : Bool) → has_second w.0 d ≡ t → step (choice words) (c ∷ d ∷ m) ≡ step (choice less) (c ∷ d ∷ m) → step (choice (w ∷ words)) (c ∷ d ∷ m) ≡ step (choice (keep t w less)) (c ∷ d ∷ m)
keep_is w words less c d m true e h = rw h refl
keep_is w words less c d m false e h = rw (denied_second w.0 w.1 c d m e) h

kept_is : (words : Words) (c d : ℕ) (m : List ℕ) → step (choice words) (c ∷ d ∷ m) ≡ step (choice (kept d words)) (c ∷ d ∷ m)
kept_is [] c d m = refl
kept_is (w ∷ words) c d m = keep_is w words (kept d words) c d m (has_second w.0 d) refl (kept_is words c d m)

-- ---- arms of a `match` on `i.get(1)`

abbrev SecondAny : List ℕ → List ℕ → Type 0
SecondAny [] m = ⊥
SecondAny (b ∷ []) m = slice_get m 1 ≡ Some b
SecondAny (b ∷ c ∷ bytes) m = (slice_get m 1 ≡ Some b) ⊎ SecondAny (c ∷ bytes) m

abbrev SecondOther : List ℕ → List ℕ → Type 0
SecondOther [] m = slice_get m 1 ≢ None
SecondOther (b ∷ bytes) m = (slice_get m 1 ≢ Some b) × SecondOther bytes m

-- of both the same words are kept
abbrev Alike : List ℕ → Words → Words → Type 0
Alike [] all some = Unit {0}
Alike (b ∷ bytes) all some = (kept b all ≡ kept b some) × Alike bytes all some

at_byte : (b : ℕ) (all some : Words) (m : List ℕ) → kept b all ≡ kept b some → slice_get m 1 ≡ Some b → step (choice all) m ≡ step (choice some) m
at_byte b all some [] same is = absurd cc
at_byte b all some (c ∷ []) same is = absurd cc
at_byte b all some (c ∷ d ∷ m) same is =
    let e : d ≡ b = cc in
    let words = ap (λ k. kept k all) e ∙ same ∙ sym (ap (λ k. kept k some) e) in
    kept_is all c d m ∙ ap (λ w. step (choice w) (c ∷ d ∷ m)) words ∙ sym (kept_is some c d m)

by_second : (bytes : List ℕ) (all some : Words) → Alike bytes all some → (m : List ℕ) → SecondAny bytes m → step (choice all) m ≡ step (choice some) m
by_second [] all some alike m h = absurd h
by_second (b ∷ []) all some alike m h = at_byte b all some m alike.0 h
by_second (b ∷ c ∷ bytes) all some alike m (inl is) = at_byte b all some m alike.0 is
by_second (b ∷ c ∷ bytes) all some alike m (inr later) = by_second (c ∷ bytes) all some alike.1 m later

abbrev is_none_of : List ℕ → ℕ → Bool
is_none_of [] d = true
is_none_of (b ∷ bytes) d = not (d == b) && is_none_of bytes d

none_of : (bytes : List ℕ) (c d : ℕ) (m : List ℕ) → SecondOther bytes (c ∷ d ∷ m) → is_none_of bytes d ≡ true
none_of [] c d m h = refl
none_of (b ∷ bytes) c d m h =
    let other : (d == b) ≡ false = ne_eqb d b (λ e. h.0 (ap (λ x. Some x) e)) in
    rw (other, none_of bytes c d m h.1) refl

ends_first : (bytes m : List ℕ) → slice_get m 1 ≡ None → SecondOther bytes m → ⊥
ends_first [] m none h = h none
ends_first (b ∷ bytes) m none h = ends_first bytes m none h.1

-- both cases of the letter are among the bytes
abbrev has_letter : List ℕ → ℕ → Bool
has_letter bytes y = not (is_none_of bytes (to_ascii_lowercase y)) && not (is_none_of bytes (to_ascii_uppercase (to_ascii_lowercase y)))

abbrev second_letter : List ℕ → List ℕ → Bool
second_letter bytes (x ∷ y ∷ word) = has_letter bytes y
second_letter bytes word = false

abbrev has_letters : List ℕ → Words → Bool
has_letters bytes [] = true
has_letters bytes (w ∷ words) = second_letter bytes w.0 && has_letters bytes words

no_letter : (bytes : List ℕ) (y d : ℕ) → has_letter bytes y ≡ true → is_none_of bytes d ≡ true → same_letter y d ≡ false
no_letter bytes y d h other = elim (cases_Bool (same_letter y d)) [
  | inl same ↦ absurd (elim (letter y d same) [ inl e ↦ apart p.0 e | inr e ↦ apart p.1 e ])
  | inr none ↦ none
]
  where
    p : (not (is_none_of bytes (to_ascii_lowercase y)) ≡ true) × (not (is_none_of bytes (to_ascii_uppercase (to_ascii_lowercase y))) ≡ true)
    p = and_parts _ _ h

    apart : {b : ℕ} → not (is_none_of bytes b) ≡ true → d ≡ b → ⊥
    apart {b} n e = both_ways (is_none_of bytes b) (not-true _ n) (ap (is_none_of bytes) (sym e) ∙ other)

no_second : (bytes w : List ℕ) (d : ℕ) → second_letter bytes w ≡ true → is_none_of bytes d ≡ true → has_second w d ≡ false
no_second bytes [] d h other = absurd cc
no_second bytes (x ∷ []) d h other = absurd cc
no_second bytes (x ∷ y ∷ w) d h other = no_letter bytes y d h other

none_kept : (bytes : List ℕ) (words : Words) (d : ℕ) → has_letters bytes words ≡ true → is_none_of bytes d ≡ true → kept d words ≡ []
none_kept bytes [] d h other = refl
none_kept bytes (w ∷ words) d h other =
    let p = and_parts (second_letter bytes w.0) (has_letters bytes words) h in
    rw (no_second bytes w.0 d p.0 other) (none_kept bytes words d p.1 other)

by_none_of : (bytes : List ℕ) (words : Words) → has_letters bytes words ≡ true → (m : List ℕ) → SecondOther bytes m → step (choice words) m ≡ step extension m
by_none_of bytes words h [] other = absurd (ends_first bytes [] refl other)
by_none_of bytes words h (c ∷ []) other = absurd (ends_first bytes (c ∷ []) refl other)
by_none_of bytes words h (c ∷ d ∷ m) other = kept_is words c d m ∙ ap (λ w. step (choice w) (c ∷ d ∷ m)) (none_kept bytes words d h (none_of bytes c d m other))

-- ---- attributes of names

abbrev attributes : Words
attributes =
    (codes "\\Noinferiors", NoInferiors)
    ∷ (codes "\\Noselect", NoSelect)
    ∷ (codes "\\Marked", Marked)
    ∷ (codes "\\Unmarked", Unmarked)
    ∷ (codes "\\All", All)
    ∷ (codes "\\Archive", Archive)
    ∷ (codes "\\Drafts", Drafts)
    ∷ (codes "\\Flagged", Flagged)
    ∷ (codes "\\Junk", Junk)
    ∷ (codes "\\Sent", Sent)
    ∷ (codes "\\Trash", Trash)
    ∷ []

no_backslash : (c : ℕ) → same_letter 92 c ≡ false → (92 == c) ≡ false
no_backslash c e = elim (cases_Bool (92 == c)) [ inl same ↦ absurd (both_ways (same_letter 92 c) e (ap (same_letter 92) (sym (eqb-true 92 c same)))) | inr other ↦ other ]

-- no byte behind the first: both wait, or the first is no backslash
alone : (c : ℕ) (t : Bool) → same_letter 92 c ≡ t → step name_attribute (c ∷ []) ≡ step extension (c ∷ [])
unfolding name_attribute extension backslashed_text backslashed tag_step run0_step
alone c true e = elim (letter 92 c e) [ inl is ↦ rw is refl | inr is ↦ rw is refl ]
alone c false e = denied name_attribute c [] (rw (e, no_backslash c e) refl) ∙ sym (denied extension c [] (no_backslash c e))

pub name_attribute_alone : (m : List ℕ) → slice_get m 1 ≡ None → step name_attribute m ≡ step extension m
unfolding name_attribute extension backslashed_text backslashed
name_attribute_alone [] is = waited name_attribute refl ∙ sym (waited extension refl)
name_attribute_alone (c ∷ []) is = alone c (same_letter 92 c) refl
name_attribute_alone (c ∷ d ∷ m) is = absurd cc

pub name_attribute_is_of_n : (m : List ℕ) → SecondAny (codes "nN") m → step name_attribute m ≡ step name_attribute_of_n m
unfolding name_attribute name_attribute_of_n extension
name_attribute_is_of_n = by_second (codes "nN") attributes ((codes "\\Noinferiors", NoInferiors) ∷ (codes "\\Noselect", NoSelect) ∷ []) (refl, (refl, tt))

pub name_attribute_is_of_m_u : (m : List ℕ) → SecondAny (codes "mMuU") m → step name_attribute m ≡ step name_attribute_of_m_u m
unfolding name_attribute name_attribute_of_m_u extension
name_attribute_is_of_m_u = by_second (codes "mMuU") attributes ((codes "\\Marked", Marked) ∷ (codes "\\Unmarked", Unmarked) ∷ []) (refl, (refl, (refl, (refl, tt))))

pub name_attribute_is_of_a : (m : List ℕ) → SecondAny (codes "aA") m → step name_attribute m ≡ step name_attribute_of_a m
unfolding name_attribute name_attribute_of_a extension
name_attribute_is_of_a = by_second (codes "aA") attributes ((codes "\\All", All) ∷ (codes "\\Archive", Archive) ∷ []) (refl, (refl, tt))

pub name_attribute_is_of_d_f_j : (m : List ℕ) → SecondAny (codes "dDfFjJ") m → step name_attribute m ≡ step name_attribute_of_d_f_j m
unfolding name_attribute name_attribute_of_d_f_j extension
name_attribute_is_of_d_f_j = by_second (codes "dDfFjJ") attributes ((codes "\\Drafts", Drafts) ∷ (codes "\\Flagged", Flagged) ∷ (codes "\\Junk", Junk) ∷ []) (refl, (refl, (refl, (refl, (refl, (refl, tt))))))

pub name_attribute_is_of_s_t : (m : List ℕ) → SecondAny (codes "sStT") m → step name_attribute m ≡ step name_attribute_of_s_t m
unfolding name_attribute name_attribute_of_s_t extension
name_attribute_is_of_s_t = by_second (codes "sStT") attributes ((codes "\\Sent", Sent) ∷ (codes "\\Trash", Trash) ∷ []) (refl, (refl, (refl, (refl, tt))))

pub name_attribute_is_other : (m : List ℕ) → SecondOther (codes "nNmMuUaAdDfFjJsStT") m → step name_attribute m ≡ step extension m
unfolding name_attribute extension
name_attribute_is_other = by_none_of (codes "nNmMuUaAdDfFjJsStT") attributes refl

pub ruleset arms = (
  name_attribute_alone,
  name_attribute_is_of_n,
  name_attribute_is_of_m_u,
  name_attribute_is_of_a,
  name_attribute_is_of_d_f_j,
  name_attribute_is_of_s_t,
  name_attribute_is_other,
)
