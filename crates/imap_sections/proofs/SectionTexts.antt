-- Sections: what their rules take spells them, and their canonical texts read back.
use Rattle.std.proofs.Common.{◌≡◌, ℕ, Bool, true, false, not, ◌||◌, ◌==◌, List, [], ◌∷◌, ◌++◌, Option, None, Some, sym, ◌∙◌, ap, subst, refl, inl, inr, codes}
use Rattle.std.proofs.lemmas.Bool.{false≢true, or_cases, or_left, eqb-true}
use Rattle.std.proofs.lemmas.List.{map-id}
use Rattle.imap_grammar.specs.Meaning.{Denies, differs}
use Rattle.imap_grammar.specs.Rule.{meaning, gives, otherwise, ◌▹◌, ◌or◌}
use Rattle.imap_grammar.specs.Text.{Bytes}
use Rattle.imap_grammar.specs.Classes.{is_digit}
use Rattle.imap_grammar.specs.Tags.{same_letter, tag, word, names}
use Rattle.imap_grammar.specs.Pieces.{Pieces, written, words, ◌then◌, number_text, each}
use Rattle.imap_grammar.specs.ReadBack.{Spells, SpellsAndReadsBack, Apart, Any, BeginsWith, Closes, closes, as_is}
use Rattle.imap_grammar.proofs.Yields.{Yields, right_yields, named_yields, given_yields}
use Rattle.imap_grammar.proofs.Reading.{reads-as, starts, first_yields, tag-on, apart-names, apart-alt, apart_forms, denials, denies-after, denies-tag, Begins, begun, closes-in, reads-list1_until, apart-where, denies-behind}
use Rattle.imap_grammar.proofs.ReadingLists.{takes-text}
use Rattle.imap_grammar.proofs.Spelling.{◌⨾ˢ◌, ◌▹ˢ◌, ◌◃ˢ◌, ◌orˢ◌, spells-gives, spells-wider, spells-where, spells-names, spells-nothing, spells-word, spells-tag, spells-maybe, spells-maybe_space, some-between, spells-list1}
use Rattle.imap_grammar.proofs.ReadingChoices.{reads-later_one}
use Rattle.imap_grammar.proofs.Keeping.{keeps-names, keeps-tag, keeps-before, keeps-seq, keeps-gives, keeps-follow, keeps-wider, keeps-first, keeps-opt}
use Rattle.imap_bytes.specs.Numbers.{digits, number}
use Rattle.imap_bytes.proofs.ReadingTexts.{not_digit, reads-number}
use Rattle.imap_bytes.proofs.ReadingCounts.{number_starts, numbers_yield, denies-number, denies-word_at_digit}
use Rattle.imap_bytes.proofs.SpellingTexts.{spells-number, spells-astring}
use Rattle.imap_sections.specs.declared.types.sections.MessageSection.{MessageSection}
use Rattle.imap_sections.specs.declared.types.sections.MessageSection.TheVariants.{Header, Mime, Text}
use Rattle.imap_sections.specs.SectionValues.{PathValue, Full, Part}
use Rattle.imap_sections.specs.Sections.{header_names, header_list, fields_word, not_word, header_fields, section_msgtext, section_text, section_part, part_text, part_path, section_spec, section}
use Rattle.imap_sections.specs.SectionTexts.{canonical_section_text, canonical_part, canonical_text_behind, canonical_path, canonical_spec, canonical_section, spells_header_names, spells_header_list, spells_message_text, spells_section_text, spells_part, spells_path, spells_spec, spells_section}

-- what ends a section's text: `]`, and what ends any text
abbrev pub ends_section : ℕ → Bool
ends_section b = (b == 93) || closes b

abbrev pub EndsSection : Bytes → Type 0
EndsSection = BeginsWith ends_section

in_all : (q : ℕ → Bool) → q 93 ≡ true → q 41 ≡ true → q 13 ≡ true → (t : Bytes) → EndsSection t → BeginsWith q t
in_all q h93 h41 h13 = starts ends_section q (λ b e. elim (or_cases (b == 93) (closes b) e) [
  | inl x ↦ ap q (eqb-true b 93 x) ∙ h93
  | inr x ↦ closes-in q h41 h13 (b ∷ []) x
])

-- no word that begins with a dot follows
no_dot : (same : ℕ → ℕ → Bool) (k t : Bytes) → same 46 93 ≡ false → same 46 41 ≡ false → same 46 13 ≡ false → EndsSection t → differs same (46 ∷ k) t ≡ true
no_dot same k [] h93 h41 h13 g = absurd (false≢true g)
no_dot same k (b ∷ t) h93 h41 h13 g = or_left (not (same 46 b)) (differs same k t) (in_all (λ x. not (same 46 x)) (ap not h93) (ap not h41) (ap not h13) (b ∷ t) g)

dot_denied : (t : Bytes) → EndsSection t → Denies (meaning (tag ".")) t
dot_denied t g = denies-tag _ _ _ (no_dot ◌==◌ [] t refl refl refl g)

-- ---- texts of a message

header_yields : Yields (λ v. v ≡ Header) header_fields
unfolding header_fields
header_yields = right_yields (right_yields (right_yields (named_yields refl)))

-- the longer word is tried first
fields_denied : (t : Bytes) → EndsSection t → Denies (meaning header_fields) (written (words "HEADER") ++ t)
unfolding header_fields fields_word
fields_denied t g = denies-after _ _ _ (denies-tag _ _ _ (no_dot same_letter (codes "FIELDS") t refl refl refl g))

fields_apart : Apart header_fields (names "HEADER" Header or names "TEXT" Text) canonical_section_text EndsSection
unfolding header_fields fields_word
fields_apart =
    apart-alt _ _ (apart-names (word "HEADER") Header fields_denied)
    (apart-names (word "TEXT") Text (λ t g. denies-after _ _ _ (denies-tag _ _ _ refl)))

header_named : (meaning (names "HEADER" Header or names "TEXT" Text)).yields (codes "HEADER") Header []
unfolding meaning
header_named = inl ((codes "HEADER", Header), ([], (refl, refl), (refl, refl)), refl)

header_names_spell : Spells (otherwise header_names tt) (λ _. spells_header_names)
unfolding header_names
header_names_spell = spells-gives _ (spells-wider (spells-list1 (spells-tag " ") spells-astring) (λ v c h. (v, some-between _ _ v c h))) orˢ spells-nothing tt ([], refl)

header_list_spells : Spells header_list (λ _. spells_header_list)
unfolding header_list
header_list_spells = spells-tag "(" ▹ˢ header_names_spell ◃ˢ (spells-maybe_space ⨾ˢ spells-tag ")")

header_fields_spells : Spells header_fields spells_message_text
unfolding header_fields fields_word not_word
header_fields_spells =
    spells-where header_yields
    (spells-word "HEADER.FIELDS" ▹ˢ spells-maybe (spells-word ".NOT") ▹ˢ spells-tag " " ▹ˢ spells-names {T = λ _. spells_header_list} Header header_list_spells)
    (λ v c e h. subst (λ w. spells_message_text w c) (sym e) (inr h))

pub keeps_section_msgtext : SpellsAndReadsBack section_msgtext as_is canonical_section_text spells_message_text EndsSection
unfolding section_msgtext
keeps_section_msgtext =
    let text = keeps-names "TEXT" Text refl refl (λ c h. h) in
    let others = keeps-first (keeps-names "HEADER" Header refl refl (λ c h. inl h)) (search apart_forms depth 20) text in
    record { spelled = header_fields_spells orˢ others.spelled; back = reads-later_one Header (codes "HEADER") header_yields header_named fields_denied others.back fields_apart }

-- what names a text of a message names one of a part
of_part : (what : MessageSection) (c : Bytes) → spells_message_text what c → spells_section_text what c
of_part Header c h = h
of_part Mime c h = absurd h
of_part Text c h = h

pub keeps_section_text : SpellsAndReadsBack section_text as_is canonical_section_text spells_section_text EndsSection
unfolding section_text section_msgtext header_fields fields_word
keeps_section_text = keeps-first (keeps-wider keeps_section_msgtext of_part) (search apart_forms depth 20) (keeps-names "MIME" Mime refl refl (λ c h. h))

-- ---- parts

-- no further number follows
abbrev pub EndsPart : Bytes → Type 0
EndsPart t = BeginsWith not_digit t × Denies (meaning (tag "." ▹ number)) t

pub keeps_section_part : SpellsAndReadsBack section_part as_is canonical_part spells_part EndsPart
unfolding section_part
keeps_section_part = record {
  spelled = spells-list1 (spells-tag ".") spells-number;
  back = reads-as (reads-list1_until (takes-text ".") reads-number (λ y t. tt) (λ t. refl) (λ t g. g.0) (λ t g. g.1)) map-id;
}

-- what ends a section's text ends a part
pub ends_part : (t : Bytes) → EndsSection t → EndsPart t
ends_part t g = (in_all not_digit refl refl refl t g, denies-after _ _ _ (dot_denied t g))

-- a word behind a dot is no number
word_ends : (t : Bytes) → BeginsWith not_digit t → EndsPart (46 ∷ t)
word_ends t g = (refl, denies-behind (tag ".") number (46 ∷ t) (46 ∷ []) t (tag-on ◌==◌ (codes ".") (46 ∷ []) t refl) (denies-number t g))

text_ends : (what : MessageSection) (t : Bytes) → EndsPart (46 ∷ (written (canonical_section_text what) ++ t))
text_ends Header t = word_ends _ refl
text_ends Mime t = word_ends _ refl
text_ends Text t = word_ends _ refl

behind_ends : (what : Option MessageSection) (t : Bytes) → EndsSection t → EndsPart (written (canonical_text_behind what) ++ t)
behind_ends None t g = ends_part t g
behind_ends (Some what) t g = text_ends what t

keeps_part_path : SpellsAndReadsBack part_path as_is canonical_path spells_path EndsSection
unfolding part_path part_text
keeps_part_path =
    keeps-gives _
    (keeps-seq keeps_section_part
    (keeps-opt {l = as_is} {c = canonical_text_behind} refl refl (keeps-tag "." keeps_section_text) (λ t g. denies-after _ _ _ (dot_denied t g)) (λ x. refl) refl)
    behind_ends)
    (λ x. refl)

-- ---- paths

-- a part begins with a digit
abbrev PartStarts : List ℕ → Type 0
PartStarts numbers = (q : Pieces) (t : Bytes) → BeginsWith is_digit (written (canonical_part numbers then q) ++ t)

abbrev PathStarts : PathValue → Type 0
PathStarts path = (t : Bytes) → BeginsWith is_digit (written (canonical_path path) ++ t)

part_yields : Yields PartStarts section_part
unfolding section_part
part_yields =
    given_yields (λ (v : ℕ × List ℕ). v.0 ∷ v.1) (first_yields numbers_yield)
    (λ v small q t. number_starts is_digit (λ b h. h) v.0 small (each (λ n. words "." then number_text n) v.1 then q) t)

path_yields : Yields PathStarts part_path
unfolding part_path
path_yields = given_yields (λ (v : List ℕ × Option MessageSection). Part v.0 v.1) (first_yields part_yields) (λ v digit t. digit (canonical_text_behind v.1) t)

ruleset at_digit = (denies-word_at_digit, denials)

text_denied : (m : Bytes) → BeginsWith is_digit m → Denies (meaning (gives Full section_msgtext)) m
unfolding section_msgtext header_fields fields_word
text_denied m g = search at_digit depth 20

pub keeps_section_spec : SpellsAndReadsBack section_spec as_is canonical_path spells_path EndsSection
unfolding section_spec
keeps_section_spec = keeps-first (keeps-gives Full keeps_section_msgtext (λ x. refl)) (apart-where path_yields (λ v t digit g. text_denied _ (digit t))) keeps_part_path

-- nothing between the brackets
none_denied : (t : Bytes) → Denies (meaning section_spec) (93 ∷ t)
unfolding section_spec section_msgtext header_fields fields_word part_path section_part number digits
none_denied t = search denials depth 20

pub keeps_section : SpellsAndReadsBack section as_is canonical_section spells_section Any
unfolding section
keeps_section =
    keeps-tag "["
    (keeps-before "]"
    (keeps-opt {l = as_is} {c = canonical_spec} {T = spells_spec} {F = Begins 93} refl refl (keeps-follow keeps_section_spec (begun _ (λ u. refl))) (begun _ none_denied) (λ x. refl) refl)
    (λ t. (t, refl)))

pub closes_section : (t : Bytes) → Closes t → EndsSection t
closes_section = closes-in ends_section refl refl
