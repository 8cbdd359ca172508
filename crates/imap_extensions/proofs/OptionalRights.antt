-- Optional rights, which are joined, and LISTRIGHTS read back.
use Rattle.std.proofs.Common.{◌≡◌, ℕ, ◌<◌, ◌^◌, true, List, [], ◌∷◌, ◌++◌, length, refl, sym, ap, subst, ◌∙◌, inl, inr, map, append-nil, encode_utf8_all, chars}
use Rattle.std.proofs.lemmas.List.Elements.{All-head, All-tail, All-nil}
use Rattle.std.proofs.lemmas.Str.{scalars-chars, chars-encodes}
use Rattle.std.specs.List.{All}
use Rattle.std.specs.Str.{all_scalars}
use mathlib.Core.List.{map-append}
use Rattle.imap_grammar.specs.Classes.{is_blank}
use Rattle.imap_grammar.specs.Meaning.{outside}
use Rattle.imap_grammar.specs.Rule.{meaning, gives, nothing, ◌▹◌}
use Rattle.imap_grammar.specs.Text.{Bytes, as_text}
use Rattle.imap_grammar.specs.Tags.{blanks0, blanks1}
use Rattle.imap_grammar.specs.Pieces.{written, Fits, literal_of}
use Rattle.imap_grammar.specs.ReadBack.{SpellsAndReadsBack, Closes, as_is}
use Rattle.imap_grammar.proofs.Yields.{Yields, given_yields, either_yields, right_yields, list_yields}
use Rattle.imap_grammar.proofs.Reading.{denies-gives, denies-after, closes-in, gives-on, after-on}
use Rattle.imap_grammar.proofs.Spelling.{◌▹ˢ◌, spells-gives, spells-wider, spells-blanks0, spells-blanks1, spells-list0}
use Rattle.imap_grammar.proofs.Keeping.{keeps-word, keeps-blanks, ◌⨾ᵏ◌, keeps-gives}
use Rattle.imap_bytes.specs.Strings.{astring}
use Rattle.imap_bytes.specs.Texts.{astring_utf8}
use Rattle.imap_bytes.proofs.LossyTwice.{all-append}
use Rattle.imap_bytes.proofs.ReadingTexts.{astring_on, decoded_utf8, utf8_yields}
use Rattle.imap_bytes.proofs.ReadingCounts.{closes_blanks}
use Rattle.imap_bytes.proofs.Keeping.{keeps-astring_utf8}
use Rattle.imap_shared.specs.declared.types.rights.AclRight.{AclRight}
use Rattle.imap_shared.specs.Rights.{right_of, letter_of, rights_of, rights_in, rights}
use Rattle.imap_shared.specs.RightTexts.{letters_of}
use Rattle.imap_shared.proofs.RightTexts.{letters_kept, keeps_rights}
use Rattle.imap_shared.proofs.MailboxTexts.{keeps_mailbox}
use Rattle.imap_extensions.specs.Acls.{lent_list_rights, joined, right_groups, optional_rights, list_rights_of, list_rights}
use Rattle.imap_extensions.specs.AclTexts.{canonical_optional, canonical_list_rights, spells_optional, spells_list_rights}
use Rattle.imap_extensions.proofs.AclTexts.{closes_text}

-- each is the right of a character
abbrev pub OfCharacters : List AclRight → Type 0
OfCharacters v = (cs : List ℕ) × (all_scalars cs ≡ true) × (v ≡ map right_of cs)

of_text : Yields OfCharacters rights
unfolding rights astring_utf8
of_text = given_yields rights_in (utf8_yields {a = astring}) (λ t u. (chars t.bytes, scalars-chars t.bytes u, refl))

all_joined : (groups : List (List AclRight)) → All OfCharacters groups → OfCharacters (joined groups)
all_joined [] h = ([], refl, refl)
all_joined (g ∷ groups) h =
    let here = All-head OfCharacters g groups h in
    let others = all_joined groups (All-tail OfCharacters g groups h) in
    (here.0 ++ others.0, scalars_append here.0 others.0 here.1 others.1, ap (λ l. l ++ joined groups) here.2 ∙ ap (λ l. map right_of here.0 ++ l) others.2 ∙ sym (map-append right_of here.0 others.0))
  where
    scalars_append : (a b : List ℕ) → all_scalars a ≡ true → all_scalars b ≡ true → all_scalars (a ++ b) ≡ true
    scalars_append a b h k = all-append _ a b h k

nothing_yields : {A : Type 0} {P : A → Type 0} (x : A) → P x → Yields P (nothing x)
unfolding meaning
nothing_yields {P = P} x h = record { each = λ m v rest y. subst P y.0 h }

groups_yield : Yields (All OfCharacters) right_groups
unfolding right_groups
groups_yield = either_yields (list_yields OfCharacters of_text) (nothing_yields [] (All-nil OfCharacters))

optional_yields : Yields OfCharacters optional_rights
unfolding optional_rights
optional_yields = given_yields joined (right_yields groups_yield) all_joined

-- such rights, from one text
rights_on : (v : List AclRight) → OfCharacters v → length (letters_of v) < 2 ^ 32 → (t : Bytes) → (meaning rights).yields (literal_of (letters_of v) ++ t) v t
unfolding meaning rights astring_utf8
rights_on v (cs, scalars, is) short t =
    let letters : letters_of v ≡ encode_utf8_all cs = ap (λ r. encode_utf8_all (map letter_of r)) is ∙ ap encode_utf8_all (letters_kept cs) in
    let back : rights_of (letters_of v) ≡ v = ap rights_of letters ∙ ap (map right_of) (chars-encodes cs scalars) ∙ sym is in
    (as_text (letters_of v), (letters_of v, astring_on (letters_of v) t short, decoded_utf8 (letters_of v) (cs, (scalars, sym letters))), back)

-- ---- one group, or none

one_group : (v : List AclRight) (m t : Bytes) → (meaning rights).yields m v t → Closes t → (meaning right_groups).yields m (v ∷ []) t
unfolding meaning right_groups
one_group v m t y g = inl ((v, []), (t, y, (refl, denies-after blanks1 rights t (closes_blanks t g))), refl)

no_group : (t : Bytes) → Closes t → (meaning right_groups).yields t [] t
unfolding meaning right_groups rights
no_group t g = inr (inl (denies-gives rights_in astring_utf8 t (closes_text t g)), (refl, refl))

optional_on : (v : List AclRight) → OfCharacters v → Fits (canonical_optional v) → (t : Bytes) → Closes t → (meaning optional_rights).yields (written (canonical_optional v) ++ t) v t
unfolding meaning optional_rights
optional_on [] p f t g =
    gives-on joined (blanks0 ▹ right_groups) t [] t (after-on blanks0 right_groups t [] t [] t (refl, refl, closes-in (outside is_blank) refl refl t g) (no_group t g))
optional_on (r ∷ rs) p f t g =
    let v : List AclRight = r ∷ rs in
    let text : Bytes = literal_of (letters_of v) in
    let read = subst (λ l. (meaning right_groups).yields (l ++ t) (v ∷ []) t) (sym (append-nil text)) (one_group v (text ++ t) t (rights_on v p f.0 t) g) in
    subst (λ w. (meaning (gives joined (blanks0 ▹ right_groups))).yields (32 ∷ ((text ++ []) ++ t)) w t) (append-nil v)
    (gives-on joined (blanks0 ▹ right_groups) _ (v ∷ []) t (after-on blanks0 right_groups _ (32 ∷ []) ((text ++ []) ++ t) (v ∷ []) t (refl, refl, refl) read))

keeps_optional : SpellsAndReadsBack optional_rights as_is canonical_optional spells_optional Closes
unfolding optional_rights right_groups
keeps_optional = record {
  spelled = spells-gives joined (spells-wider (spells-blanks0 ▹ˢ spells-list0 spells-blanks1 keeps_rights.spelled) (λ groups c h. (groups, refl, h)));
  back = record { again = λ m v rest y f t g. optional_on v (optional_yields.each m v rest y) f t g };
}

pub keeps_list_rights : SpellsAndReadsBack list_rights lent_list_rights canonical_list_rights spells_list_rights Closes
unfolding list_rights
keeps_list_rights =
    keeps-gives list_rights_of
    (keeps-word "LISTRIGHTS"
    (keeps-blanks
    (keeps_mailbox ⨾ᵏ keeps-blanks (keeps-astring_utf8 ⨾ᵏ keeps-blanks (keeps_rights ⨾ᵏ keeps_optional) (λ v t. refl)) (λ v t. refl))
    (λ v t. refl)))
    (λ x. refl)
