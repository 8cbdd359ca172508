-- METADATA reads back: annotations of mailboxes, and the data that they are.
use Rattle.std.proofs.Common.{nat_lt, take, suc, ◌+◌, ◌≡◌, ℕ, ◌<◌, ◌==◌, ◌&&◌, ◌||◌, Bool, true, false, not, [], ◌∷◌, ◌++◌, Option, None, Some, refl, sym, ap, subst, ◌∙◌, inl, inr, codes, arith, append-nil, cond, ◌⊎◌, map}
use Rattle.std.specs.Bool.{if◌then◌else◌}
use Rattle.std.specs.Option.{option_map}
use Rattle.std.specs.List.{list_all, prefix_len}
use Rattle.std.specs.Str.Lossy.{utf8_lossy}
use Rattle.std.proofs.lemmas.Bool.{false≢true, and_parts, and_from, or_cases, or_left, or_right, eqb-true, ltb-true, cases_Bool}
use Rattle.std.proofs.lemmas.Bool.Decides.{nat_tests}
use Rattle.std.proofs.lemmas.Str.{utf8_lossy_empty}
use Rattle.std.proofs.lemmas.List.{map-id}
use Rattle.imap_grammar.specs.Meaning.{Denies}
use Rattle.imap_grammar.specs.Rule.{meaning}
use Rattle.imap_grammar.specs.Text.{Bytes, Text, as_text, lent_text}
use Rattle.imap_grammar.specs.Pieces.{written, literal_of, literal_text, ntext, nstring_text}
use Rattle.imap_grammar.specs.ReadBack.{ReadsBack, SpellsAndReadsBack, Any, Closes, closes, as_is}
use Rattle.imap_grammar.specs.Spelling.{spells_ntext, nil_or, spells_string_text}
use Rattle.imap_grammar.proofs.Reading.{test-has, test-on, reads-gives, reads-same, reads-as, reads-list0, denials, ◌⨾ʳ◌, ◌▹ʳ◌}
use Rattle.imap_grammar.proofs.ReadingLists.{takes-text}
use Rattle.imap_grammar.proofs.Spelling.{◌⨾ˢ◌, ◌▹ˢ◌, spells-gives, spells-wider, spells-tested, spells-tag, spells-list0}
use Rattle.imap_grammar.proofs.Keeping.{keeps-word, keeps-before, ◌⨾ᵏ◌, keeps-gives, keeps-nonempty_list_of}
use Rattle.imap_bytes.specs.Strings.{astring, string, quoted, literal, literal_header}
use Rattle.imap_bytes.proofs.ReadingTexts.{astring_on, decoded_twice, reads-nstring_utf8}
use Rattle.imap_bytes.proofs.ReadingQuoted.{lossy_ascii}
use Rattle.imap_bytes.proofs.ReadingCounts.{closes_space}
use Rattle.imap_bytes.proofs.SpellingTexts.{spells-astring, spells-utf8, spells-nstring_utf8}
use Rattle.imap_bytes.proofs.Keeping.{keeps-quoted_utf8}
use Rattle.imap_data.specs.Annotations.{is_component_byte, is_path_byte, first_line, is_path, has_component, behind, passes, is_comment, is_vendor, is_comment_or_vendor, is_private, is_admin, is_shared, is_entry_name, entry, entry_utf8, bytes_in, annotation_of, annotation, metadata_mailbox, annotations, entries, solicited_of, metadata_solicited, unsolicited_of, metadata_unsolicited}
use Rattle.imap_data.specs.AnnotationValues.{MetadataValue}
use Rattle.imap_data.specs.AnnotationTexts.{canonical_annotation, canonical_metadata, canonical_annotations, canonical_entries, spells_entry, spells_annotation, spells_metadata, spells_annotations, spells_entries}
use Rattle.imap_data.specs.DatumValues.{lent_datum}
use Rattle.imap_data.specs.MailboxDataTexts.{canonical_datum, spells_datum}

-- ---- the lossy text of an entry's name is an entry's name

small : (b : ℕ) → is_path_byte b ≡ true → b < 128
small b h = grind (arith, nat_tests)

component_small : (b : ℕ) → is_component_byte b ≡ true → b < 128
component_small b h = grind (arith, nat_tests)

nothing_lossy : utf8_lossy [] ≡ []
nothing_lossy = utf8_lossy_empty [] refl

abbrev no_return : ℕ → Bool
no_return b = not (b == 13)

one_more : (n : ℕ) → 1 + n ≡ suc n
one_more n = omega arith

first_on : (b : ℕ) (m : Bytes) → no_return b ≡ true → first_line (b ∷ m) ≡ b ∷ first_line m
first_on b m e = ap (λ x. take (cond x (1 + prefix_len no_return m) 0) (b ∷ m)) e ∙ ap (λ n. take n (b ∷ m)) (one_more (prefix_len no_return m))

first_off : (b : ℕ) (m : Bytes) → no_return b ≡ false → first_line (b ∷ m) ≡ []
first_off b m e = ap (λ x. take (cond x (1 + prefix_len no_return m) 0) (b ∷ m)) e

is_return : (b : ℕ) → no_return b ≡ false → b < 128
is_return b e = grind (arith, nat_tests)

abbrev PathLine : Bytes → Type 0
PathLine line = list_all is_path_byte line ≡ true

line_lossy : (m : Bytes) → PathLine (first_line m) → PathLine (first_line (utf8_lossy m))
line_lossy [] h = subst (λ l. PathLine (first_line l)) (sym nothing_lossy) refl
line_lossy (b ∷ m) h = elim (cases_Bool (no_return b)) [
  | inl on ↦
      let parts = and_parts (is_path_byte b) (list_all is_path_byte (first_line m)) (subst PathLine (first_on b m on) h) in
      subst (λ l. PathLine (first_line l)) (sym (lossy_ascii b m (small b parts.0))) (subst PathLine (sym (first_on b (utf8_lossy m) on)) (and_from _ _ parts.0 (line_lossy m parts.1)))
  | inr end ↦ subst (λ l. PathLine (first_line l)) (sym (lossy_ascii b m (is_return b end))) (subst PathLine (sym (first_off b (utf8_lossy m) end)) refl)
]

path_lossy : (m : Bytes) → is_path m ≡ true → is_path (utf8_lossy m) ≡ true
path_lossy [] h = subst (λ l. is_path l ≡ true) (sym nothing_lossy) refl
path_lossy (b ∷ m) h = elim (or_cases ((b == 32) || (b == 13)) ((b == 47) && list_all is_path_byte (first_line m)) h) [
  | inl front ↦ subst (λ l. is_path l ≡ true) (sym (lossy_ascii b m (blank b front))) (or_left ((b == 32) || (b == 13)) ((b == 47) && list_all is_path_byte (first_line (utf8_lossy m))) front)
  | inr path ↦
      let parts = and_parts (b == 47) (list_all is_path_byte (first_line m)) path in
      subst (λ l. is_path l ≡ true) (sym (lossy_ascii b m (slash b parts.0)))
      (or_right ((b == 32) || (b == 13)) ((b == 47) && list_all is_path_byte (first_line (utf8_lossy m))) (and_from (b == 47) _ parts.0 (line_lossy m parts.1)))
]
  where
    blank : (b : ℕ) → ((b == 32) || (b == 13)) ≡ true → b < 128
    blank b e = grind (arith, nat_tests)

    slash : (b : ℕ) → (b == 47) ≡ true → b < 128
    slash b e = grind (arith, nat_tests)

component_lossy : (m : Bytes) → has_component m ≡ true → has_component (utf8_lossy m) ≡ true
component_lossy [] h = absurd (false≢true h)
component_lossy (x ∷ []) h = absurd (false≢true h)
component_lossy (x ∷ b ∷ m) h =
    let parts = and_parts (x == 47) (is_component_byte b) h in
    subst (λ l. has_component l ≡ true) (sym (lossy_ascii x (b ∷ m) (slash x parts.0) ∙ ap (λ l. x ∷ l) (lossy_ascii b m (component_small b parts.1)))) h
  where
    slash : (b : ℕ) → (b == 47) ≡ true → b < 128
    slash b e = grind (arith, nat_tests)

-- behind a word of ASCII
passes_lossy : (p : Bytes → Bool) (k m : Bytes) → list_all (λ b. nat_lt b 128) k ≡ true → ((r : Bytes) → p r ≡ true → p (utf8_lossy r) ≡ true) → passes p (behind k m) ≡ true → passes p (behind k (utf8_lossy m)) ≡ true
passes_lossy p [] m ascii keeps h = keeps m h
passes_lossy p (x ∷ k) [] ascii keeps h = absurd (false≢true h)
passes_lossy p (x ∷ k) (b ∷ m) ascii keeps h = elim (cases_Bool (b == x)) [
  | inl same ↦
      let parts = and_parts (nat_lt x 128) (list_all (λ b. nat_lt b 128) k) ascii in
      let is : b ≡ x = eqb-true b x same in
      subst (λ l. passes p (behind (x ∷ k) l) ≡ true) (sym (lossy_ascii b m (subst (λ y. y < 128) (sym is) (ltb-true x 128 parts.0))))
      (subst (λ y. passes p (if y then behind k (utf8_lossy m) else None) ≡ true) (sym same)
      (passes_lossy p k m parts.1 keeps (subst (λ y. passes p (if y then behind k m else None) ≡ true) same h)))
  | inr other ↦ absurd (false≢true (subst (λ y. passes p (if y then behind k m else None) ≡ true) other h))
]

vendor_lossy : (m : Bytes) → (has_component m && is_path m) ≡ true → (has_component (utf8_lossy m) && is_path (utf8_lossy m)) ≡ true
vendor_lossy m h =
    let parts = and_parts (has_component m) (is_path m) h in
    and_from _ _ (component_lossy m parts.0) (path_lossy m parts.1)

either_lossy : (m : Bytes) → is_comment_or_vendor m ≡ true → is_comment_or_vendor (utf8_lossy m) ≡ true
either_lossy m h = elim (or_cases (is_comment m) (is_vendor m) h) [
  | inl comment ↦ or_left (is_comment (utf8_lossy m)) (is_vendor (utf8_lossy m)) (passes_lossy is_path (codes "/comment") m refl path_lossy comment)
  | inr vendor ↦ or_right (is_comment (utf8_lossy m)) (is_vendor (utf8_lossy m)) (passes_lossy (λ path. has_component path && is_path path) (codes "/vendor") m refl vendor_lossy vendor)
]

pub entry_lossy : (m : Bytes) → is_entry_name m ≡ true → is_entry_name (utf8_lossy m) ≡ true
entry_lossy m h = elim (or_cases (is_private m || is_admin m) (is_shared m) h) [
  | inl two ↦ or_left (is_private (utf8_lossy m) || is_admin (utf8_lossy m)) (is_shared (utf8_lossy m)) (elim (or_cases (is_private m) (is_admin m) two) [
    | inl x ↦ or_left (is_private (utf8_lossy m)) (is_admin (utf8_lossy m)) (passes_lossy is_comment_or_vendor (codes "/private") m refl either_lossy x)
    | inr x ↦ or_right (is_private (utf8_lossy m)) (is_admin (utf8_lossy m)) (passes_lossy is_path (codes "/shared/admin") m refl path_lossy x)
  ])
  | inr x ↦ or_right (is_private (utf8_lossy m) || is_admin (utf8_lossy m)) (is_shared (utf8_lossy m)) (passes_lossy is_comment_or_vendor (codes "/shared") m refl either_lossy x)
]

-- ---- entries and their values

reads_entry : ReadsBack entry_utf8 lent_text literal_text Any
unfolding meaning entry_utf8 entry
reads_entry = record {
  again = λ m v rest y f t g.
      let name = (test-has is_entry_name astring m y.0 rest y.1).1 in
      let text : utf8_lossy y.0 ≡ v.bytes = ap (λ (x : Text). x.bytes) y.2 in (
        v.bytes,
        test-on is_entry_name astring (written (literal_text v) ++ t) v.bytes t (subst (λ l. (meaning astring).yields (l ++ t) v.bytes t) (sym (append-nil (literal_of v.bytes))) (astring_on v.bytes t f.0)) (subst (λ l. is_entry_name l ≡ true) text (entry_lossy y.0 name)),
        decoded_twice y.0 v y.2,
      );
}

value_text : (v : Option Text) → ntext v ≡ nstring_text (option_map bytes_in v)
value_text None = refl
value_text (Some t) = refl

value_lent : (v : Option Text) → option_map bytes_in (option_map lent_text v) ≡ option_map bytes_in v
value_lent None = refl
value_lent (Some t) = refl

abbrev valued : Bytes → Option Bytes → MetadataValue
valued name value = record { entry = name; value = value }

value_spells : (v : Option Text) (c : Bytes) → spells_ntext v c → nil_or (λ b. spells_string_text (as_text b)) (option_map bytes_in v) c
value_spells None c h = h
value_spells (Some t) c h = h

keeps_entry : SpellsAndReadsBack entry_utf8 lent_text literal_text spells_entry Any
unfolding entry_utf8 entry
keeps_entry = record { spelled = spells-utf8 (spells-tested is_entry_name spells-astring); back = reads_entry }

keeps_annotation : SpellsAndReadsBack annotation as_is canonical_annotation spells_annotation Any
unfolding annotation
keeps_annotation = record {
  spelled = spells-gives annotation_of (keeps_entry.spelled ⨾ˢ spells-tag " " ▹ˢ spells-wider spells-nstring_utf8 value_spells);
  back = reads-gives annotation_of (reads_entry ⨾ʳ takes-text " " ▹ʳ reads-same reads-nstring_utf8 value_text) (λ x. ap (valued x.0.bytes) (value_lent x.1));
}

pub keeps_metadata_mailbox : SpellsAndReadsBack metadata_mailbox lent_text canonical_metadata spells_metadata Any
unfolding metadata_mailbox
keeps_metadata_mailbox = keeps-word "METADATA " (keeps-before " " keeps-quoted_utf8 (λ t. tt))

pub keeps_annotations : SpellsAndReadsBack annotations as_is canonical_annotations spells_annotations Any
unfolding annotations
keeps_annotations =
    let list = keeps-nonempty_list_of keeps_annotation (λ t. tt) (λ t. tt) in
    record { spelled = list.spelled; back = reads-as list.back map-id }

-- ---- entries alone

no_entry : (b : ℕ) (t : Bytes) → closes b ≡ true → Denies (meaning entry_utf8) (b ∷ t)
unfolding entry_utf8 entry astring string quoted literal literal_header
no_entry b t h = at (or_cases (b == 41) (b == 13) h)
  where
    at : ((b == 41) ≡ true) ⊎ ((b == 13) ≡ true) → Denies (meaning entry_utf8) (b ∷ t)
    at (inl e) = subst (λ x. Denies (meaning entry_utf8) (x ∷ t)) (sym (eqb-true b 41 e)) (search denials depth 30)
    at (inr e) = subst (λ x. Denies (meaning entry_utf8) (x ∷ t)) (sym (eqb-true b 13 e)) (search denials depth 30)

closes_entry : (t : Bytes) → Closes t → Denies (meaning entry_utf8) t
closes_entry [] g = absurd (false≢true g)
closes_entry (b ∷ t) g = no_entry b t g

pub keeps_entries : SpellsAndReadsBack entries (map lent_text) canonical_entries spells_entries Closes
unfolding entries
keeps_entries = record {
  spelled = spells-list0 (spells-tag " ") keeps_entry.spelled;
  back = reads-list0 (takes-text " ") reads_entry (λ y t. tt) (λ t. tt) (λ t g. tt) closes_space closes_entry;
}

-- ---- as data of a mailbox

pub keeps_solicited : SpellsAndReadsBack metadata_solicited lent_datum canonical_datum spells_datum Any
unfolding metadata_solicited
keeps_solicited = keeps-gives solicited_of (keeps_metadata_mailbox ⨾ᵏ keeps_annotations) (λ x. refl)

pub keeps_unsolicited : SpellsAndReadsBack metadata_unsolicited lent_datum canonical_datum spells_datum Closes
unfolding metadata_unsolicited
keeps_unsolicited = keeps-gives unsolicited_of (keeps_metadata_mailbox ⨾ᵏ keeps_entries) (λ x. refl)
