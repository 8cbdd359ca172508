-- LIST data: what their rules take spells them, and their canonical texts read back.
use Rattle.std.proofs.Common.{◌≡◌, true, ◌∷◌, ◌++◌, None, Some, sym, ◌∙◌, ap, subst, refl}
use Rattle.std.specs.Option.{option_map}
use Rattle.std.specs.Str.{is_utf8}
use Rattle.imap_grammar.specs.Classes.{is_atom_char}
use Rattle.imap_grammar.specs.Meaning.{Denies, differs, outside}
use Rattle.imap_grammar.specs.Rule.{meaning, gives, nothing, tag_by, ◌▹◌}
use Rattle.imap_grammar.specs.Text.{Bytes, lent_text}
use Rattle.imap_grammar.specs.Tags.{same_letter}
use Rattle.imap_grammar.specs.Pieces.{written, raw}
use Rattle.imap_grammar.specs.ReadBack.{Apart, Any, BeginsWith, SpellsAndReadsBack}
use Rattle.imap_grammar.specs.Spelling.{exactly, ◌and◌, all_of, as_it_is, nil_or, spells_quoted_text}
use Rattle.imap_grammar.proofs.Reading.{raw_on, test-has, reads-gives, reads-test, apart_forms, denials, denies-after, denies-tag, names-denied, tag-denied}
use Rattle.imap_grammar.proofs.ReadingWords.{has_cases, differs-again}
use Rattle.imap_grammar.proofs.Spelling.{◌⨾ˢ◌, spells-gives, spells-wider, spells-tested, spells-tag, spells-run0, spells-raw}
use Rattle.imap_grammar.proofs.Keeping.{keeps-names, keeps-tag, ◌⨾ᵏ◌, keeps-gives, keeps-first, keeps-list_of}
use Rattle.imap_bytes.specs.Strings.{quoted, nil}
use Rattle.imap_bytes.specs.Texts.{quoted_utf8}
use Rattle.imap_bytes.proofs.Keeping.{keeps-quoted_utf8}
use Rattle.imap_shared.specs.Flags.{backslashed, backslashed_text}
use Rattle.imap_shared.proofs.FlagTexts.{backslashed-has, reads_backslashed}
use Rattle.imap_shared.proofs.MailboxTexts.{keeps_mailbox}
use Rattle.imap_data.specs.Names.{NameAttributeValue, NoInferiors, NoSelect, Marked, Unmarked, All, Archive, Drafts, Flagged, Junk, Sent, Trash, lent_name_attribute, lent_list, extension_of, name_attribute, name_attributes, delimiter, list_of_parts, list_data}
use Rattle.imap_data.specs.NameTexts.{canonical_name_attribute, canonical_delimiter, canonical_list, spells_name_attribute, spells_list_data}

abbrev AtomEnds : Bytes → Type 0
AtomEnds = BeginsWith (outside is_atom_char)

-- a word behind a backslash
word-apart : (k m v rest t : Bytes) → has_cases is_atom_char k ≡ true → differs same_letter (92 ∷ k) m ≡ true → (meaning backslashed).yields m v rest → AtomEnds t → differs same_letter (92 ∷ k) (v ++ t) ≡ true
word-apart k m v rest t cases d y e =
    let has = backslashed-has m v rest y in
    let input : m ≡ 92 ∷ (has.0 ++ rest) = has.4 ∙ ap (λ l. l ++ rest) has.1 in
    subst (λ l. differs same_letter (92 ∷ k) (l ++ t) ≡ true) (sym has.1) (differs-again is_atom_char k has.0 rest t cases (subst (λ l. differs same_letter (92 ∷ k) l ≡ true) input d) e)

extension_apart : (k : Bytes) (x : NameAttributeValue) → has_cases is_atom_char k ≡ true → Apart (tag_by same_letter (92 ∷ k) ▹ nothing x) (gives extension_of backslashed_text) canonical_name_attribute AtomEnds
unfolding meaning backslashed_text
extension_apart k x cases = record {
  denied = λ m v rest d y f t e.
      let no_ = word-apart k m y.0 rest t cases (tag-denied same_letter (92 ∷ k) m (names-denied (tag_by same_letter (92 ∷ k)) x m d)) (test-has is_utf8 backslashed m y.0 rest y.1).0 e in
      subst (λ w. Denies (meaning (tag_by same_letter (92 ∷ k) ▹ nothing x)) (written (canonical_name_attribute w) ++ t)) y.2
      (denies-after (tag_by same_letter (92 ∷ k)) (nothing x) (written (raw y.0) ++ t) (denies-tag same_letter (92 ∷ k) (written (raw y.0) ++ t) (subst (λ l. differs same_letter (92 ∷ k) l ≡ true) (sym (raw_on y.0 t)) no_)));
}

ruleset name_forms = (extension_apart, apart_forms)

backslash_first : (x : Bytes × Bytes) (c : Bytes) → (exactly "\\" and as_it_is (all_of is_atom_char) x.1) c → (exactly "\\" and all_of is_atom_char) c
backslash_first x c (a, b, cut, slash, same) = (a, b, cut, slash, subst (all_of is_atom_char) (sym same.0) same.1)

-- any other name behind a backslash
keeps_name_extension : SpellsAndReadsBack (gives extension_of backslashed_text) lent_name_attribute canonical_name_attribute spells_name_attribute AtomEnds
unfolding backslashed_text backslashed
keeps_name_extension = record {
  spelled =
      spells-gives extension_of
      (spells-wider (spells-tested is_utf8 (spells-raw (spells-tag "\\" ⨾ˢ spells-run0 is_atom_char) backslash_first)) (λ v c h. (h.1.0, (h.1.1, h.0))));
  back = reads-gives extension_of (reads-test is_utf8 reads_backslashed (λ v e. e)) (λ x. refl);
}

keeps_name_attribute : SpellsAndReadsBack name_attribute lent_name_attribute canonical_name_attribute spells_name_attribute AtomEnds
unfolding name_attribute backslashed_text
keeps_name_attribute =
    keeps-first (keeps-names "\\Noinferiors" NoInferiors refl refl (λ c h. h)) (search name_forms depth 30)
    (keeps-first (keeps-names "\\Noselect" NoSelect refl refl (λ c h. h)) (search name_forms depth 30)
    (keeps-first (keeps-names "\\Marked" Marked refl refl (λ c h. h)) (search name_forms depth 30)
    (keeps-first (keeps-names "\\Unmarked" Unmarked refl refl (λ c h. h)) (search name_forms depth 30)
    (keeps-first (keeps-names "\\All" All refl refl (λ c h. h)) (search name_forms depth 30)
    (keeps-first (keeps-names "\\Archive" Archive refl refl (λ c h. h)) (search name_forms depth 30)
    (keeps-first (keeps-names "\\Drafts" Drafts refl refl (λ c h. h)) (search name_forms depth 30)
    (keeps-first (keeps-names "\\Flagged" Flagged refl refl (λ c h. h)) (search name_forms depth 30)
    (keeps-first (keeps-names "\\Junk" Junk refl refl (λ c h. h)) (search name_forms depth 30)
    (keeps-first (keeps-names "\\Sent" Sent refl refl (λ c h. h)) (search name_forms depth 30)
    (keeps-first (keeps-names "\\Trash" Trash refl refl (λ c h. h)) (search name_forms depth 30)
    keeps_name_extension))))))))))

keeps_delimiter : SpellsAndReadsBack delimiter (option_map lent_text) canonical_delimiter (nil_or spells_quoted_text) Any
unfolding delimiter quoted_utf8 quoted nil
keeps_delimiter =
    keeps-first (keeps-gives Some keeps-quoted_utf8 (λ x. refl)) (search apart_forms depth 20)
    (keeps-names "NIL" None refl refl (λ c h. h))

pub keeps_list_data : SpellsAndReadsBack list_data lent_list canonical_list spells_list_data Any
unfolding list_data name_attributes name_attribute backslashed_text backslashed
keeps_list_data =
    keeps-gives list_of_parts
    (keeps-list_of keeps_name_attribute (λ t. refl) (λ t. refl) (λ t. search denials depth 30) ⨾ᵏ keeps-tag " " (keeps_delimiter ⨾ᵏ keeps-tag " " keeps_mailbox))
    (λ x. refl)
