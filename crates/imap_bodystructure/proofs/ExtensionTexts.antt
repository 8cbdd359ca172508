-- Extension data of bodies reads back: extensions by induction over their levels.
use Rattle.std.proofs.Common.{◌≡◌, ℕ, zero, suc, List, [], ◌∷◌, ◌++◌, Option, None, Some, sym, ap, subst, refl, inl, inr, map, codes}
use Rattle.std.specs.Option.{option_map}
use Rattle.imap_grammar.specs.Meaning.{Denies}
use Rattle.imap_grammar.specs.Rule.{Rule, meaning, gives, ◌or◌}
use Rattle.imap_grammar.specs.Lists.{nonempty_list_of, flat}
use Rattle.imap_grammar.specs.Text.{Bytes, Text, lent_text}
use Rattle.imap_grammar.specs.Tags.{sp}
use Rattle.imap_grammar.specs.Pieces.{Pieces, Fits, written, words, space, ◌then◌, each, separated, ntext, literal_text, list_text}
use Rattle.imap_grammar.specs.ReadBack.{Texts, ReadsBack, SpellsAndReadsBack, Apart, Any, BeginsWith, Closes}
use Rattle.imap_grammar.specs.Spelling.{exactly, ◌and◌, each_of, some_with_between, spells_ntext}
use Rattle.imap_grammar.proofs.Reading.{reads-gives, reads-same, reads-never, apart-gives, apart-alt, denials, denies-gives, denies-after, closes-in, after-on, tag-on, gives-has, gives-on, written_on}
use Rattle.imap_grammar.proofs.ReadingLists.{reads-nonempty_list_of, list_on_one}
use Rattle.imap_grammar.proofs.Spelling.{◌orˢ◌, spells-gives, spells-wider, spells-never, spells-nothing, spells-nonempty_list_of}
use Rattle.imap_grammar.proofs.ReadingChoices.{on-first, on-second, reads-either, reads-opt_opt}
use Rattle.imap_grammar.proofs.Keeping.{keeps-tag, keeps-before, ◌⨾ᵏ◌, keeps-gives, keeps-follow, keeps-anywhere, keeps-first, keeps-opt, keeps-nonempty_list_of}
use Rattle.imap_bytes.specs.Numbers.{number}
use Rattle.imap_bytes.specs.Strings.{nil, string, quoted, literal_header, literal}
use Rattle.imap_bytes.specs.Texts.{string_utf8, nstring_utf8}
use Rattle.imap_bytes.proofs.ReadingTexts.{not_digit, reads-string_utf8, nil_or-none, nil_or-some}
use Rattle.imap_bytes.proofs.ReadingCounts.{closes_space, denies-number}
use Rattle.imap_bytes.proofs.SpellingTexts.{spells-string_utf8, spells-nstring_utf8}
use Rattle.imap_bytes.proofs.Keeping.{keeps-number, keeps-string_utf8, keeps-nstring_utf8, keeps-nil_or}
use Rattle.imap_body_types.specs.ExtensionValues.{ExtensionValue, Num, Str, Listed, one_extension, extensions_of}
use Rattle.imap_body_types.specs.Lent.{lent_disposition, lent_languages, lent_extension, lent_extensions, lent_ext_1part, lent_ext_mpart}
use Rattle.imap_envelopes.specs.EnvelopeTexts.{behind_space}
use Rattle.imap_envelopes.proofs.EnvelopeTexts.{keeps_spaced}
use Rattle.imap_bodystructure.specs.Fields.{body_fld_param}
use Rattle.imap_bodystructure.specs.Extensions.{disposition_of, body_fld_dsp, some_languages, one_language, language_list, body_fld_lang, extension_over, some_extensions, list_of_extensions, bracketed_extensions, extension_list, extension, body_extension, maybe_spaced, last_extension, ext_1part_of, body_ext_1part, ext_mpart_of, body_ext_mpart}
use Rattle.imap_bodystructure.specs.ExtensionTexts.{canonical_disposition, canonical_languages, canonical_extension, canonical_members, canonical_further, canonical_last, canonical_ext_1part, canonical_ext_mpart, spells_disposition, spells_languages, spells_extension, spells_members, spells_further, spells_field, spells_last, spells_ext_1part, spells_ext_mpart}
use Rattle.imap_bodystructure.proofs.FieldTexts.{keeps_params}

-- ---- disposition

pub keeps_disposition : SpellsAndReadsBack body_fld_dsp (option_map lent_disposition) canonical_disposition spells_disposition Any
unfolding body_fld_dsp
keeps_disposition =
    keeps-nil_or refl
    (keeps-gives disposition_of (keeps-tag "(" (keeps-string_utf8 ⨾ᵏ keeps-before ")" (keeps_spaced keeps_params) (λ t. tt))) (λ x. refl))
    (λ x t g. refl) refl (λ x. refl)

-- ---- language

-- a bracket is no text
text_denied : (t : Bytes) → Denies (meaning nstring_utf8) (40 ∷ t)
unfolding nstring_utf8 nil string_utf8 string quoted literal literal_header
text_denied t = search denials depth 12

nil_read : (t : Bytes) → (meaning nstring_utf8).yields (codes "NIL" ++ t) None t
unfolding nstring_utf8
nil_read t = nil_or-none string_utf8 t

reads_language_list : ReadsBack language_list lent_languages canonical_languages Any
unfolding language_list some_languages
reads_language_list = reads-gives Some (reads-nonempty_list_of reads-string_utf8 (λ t. tt) (λ t. tt)) (λ x. refl)

list_apart : Apart (gives one_language nstring_utf8) language_list canonical_languages Any
unfolding language_list
list_apart = apart-gives _ Some (λ x t g. denies-gives _ _ _ (text_denied _))

-- a single language is written as a list of one
list_read : (x : Text) (m rest : Bytes) → (meaning string_utf8).yields m x rest → Fits (literal_text x) → (t : Bytes) → (meaning language_list).yields (written (list_text literal_text (x ∷ [])) ++ t) (Some (lent_text x ∷ [])) t
unfolding language_list some_languages
list_read x m rest y f t =
    let text = reads-string_utf8.again m x rest y f (41 ∷ t) tt in
    gives-on Some (nonempty_list_of string_utf8) _ (lent_text x ∷ []) t
    (subst (λ l. (meaning (nonempty_list_of string_utf8)).yields (40 ∷ l) (lent_text x ∷ []) t) (sym (written_on (literal_text x) (words ")") t)) (list_on_one string_utf8 _ (lent_text x) t text))

single_read : (x : Option Text) (m rest : Bytes) → (meaning nstring_utf8).yields m x rest → Fits (canonical_languages (one_language x)) → (t : Bytes)
    → (meaning (gives one_language nstring_utf8 or language_list)).yields (written (canonical_languages (one_language x)) ++ t) (lent_languages (one_language x)) t
unfolding nstring_utf8
single_read None m rest y f t = on-first (gives one_language nstring_utf8) language_list _ None t (gives-on one_language nstring_utf8 _ None t (nil_read t))
single_read (Some x) m rest y f t =
    on-second (gives one_language nstring_utf8) language_list _ (Some (lent_text x ∷ [])) t (denies-gives one_language nstring_utf8 _ (text_denied _)) (list_read x m rest (nil_or-some string_utf8 m rest x y) f t)

pub keeps_language : SpellsAndReadsBack body_fld_lang lent_languages canonical_languages spells_languages Any
unfolding body_fld_lang language_list some_languages
keeps_language = record {
  spelled = spells-gives one_language (spells-wider spells-nstring_utf8 alone) orˢ spells-gives Some (spells-wider (spells-nonempty_list_of spells-string_utf8) (λ v c h. inl h));
  back =
      reads-either
      (λ m v rest y f t g.
      let x = gives-has one_language nstring_utf8 m v rest y in
      subst (λ w. (meaning (gives one_language nstring_utf8 or language_list)).yields (written (canonical_languages w) ++ t) (lent_languages w) t) x.2
      (single_read x.0 m rest x.1 (subst (λ w. Fits (canonical_languages w)) (sym x.2) f) t))
      reads_language_list list_apart;
}
  where
    alone : (x : Option Text) (c : Bytes) → spells_ntext x c → spells_languages (one_language x) c
    alone None c h = h
    alone (Some t) c h = inr (t, refl, h)

-- ---- extensions

-- the members are written as a list
same_further : (es : List ExtensionValue) → canonical_further (extensions_of es) ≡ each (λ e. space then canonical_extension e) es
same_further [] = refl
same_further (e ∷ es) = ap (λ p. space then canonical_extension e then p) (same_further es)

same_members : (es : List ExtensionValue) → canonical_members (extensions_of es) ≡ separated space canonical_extension es
same_members [] = refl
same_members (e ∷ es) = ap (λ p. canonical_extension e then p) (same_further es)

lent_members : (es : List ExtensionValue) → lent_extensions (extensions_of es) ≡ extensions_of (map lent_extension es)
lent_members [] = refl
lent_members (e ∷ es) = ap (λ x. one_extension (lent_extension e) x) (lent_members es)

text_no_digit : (s : Option Text) (t : Bytes) → BeginsWith not_digit (written (ntext s) ++ t)
text_no_digit None t = refl
text_no_digit (Some b) t = refl

number_denied : (m : Bytes) → BeginsWith not_digit m → Denies (meaning (gives Num number)) m
number_denied m s = denies-gives Num number m (denies-number m s)

number_apart : (level : ℕ) → Apart (gives Num number) (extension_list level) canonical_extension (BeginsWith not_digit)
unfolding meaning extension_list bracketed_extensions
number_apart zero = record { denied = λ m v rest d y f t g. absurd y }
number_apart (suc level) = apart-gives _ list_of_extensions (λ es t g. number_denied _ refl)

listed_denied : (t : Bytes) → Denies (meaning (gives Str nstring_utf8)) (40 ∷ t)
listed_denied t = denies-gives Str nstring_utf8 (40 ∷ t) (text_denied t)

text_apart : (level : ℕ) → Apart (gives Str nstring_utf8) (extension_list level) canonical_extension (BeginsWith not_digit)
unfolding meaning extension_list bracketed_extensions
text_apart zero = record { denied = λ m v rest d y f t g. absurd y }
text_apart (suc level) = apart-gives _ list_of_extensions (λ es t g. listed_denied _)

further_spell : (es : List ExtensionValue) (c : Bytes) → each_of (λ e. exactly " " and spells_extension e) es c → spells_further (extensions_of es) c
further_spell [] c h = h
further_spell (e ∷ es) c (a, b, cut, here, others) = (a, b, cut, here, further_spell es b others)

members_spell : (es : List ExtensionValue) (c : Bytes) → some_with_between (exactly " ") spells_extension es c → spells_members (extensions_of es) c
members_spell [] c h = h
members_spell (e ∷ es) c (a, b, cut, here, others) = (a, b, cut, here, further_spell es b others)

over : (level : ℕ) → SpellsAndReadsBack (extension_list level) lent_extension canonical_extension spells_extension Any → SpellsAndReadsBack (extension level) lent_extension canonical_extension spells_extension (BeginsWith not_digit)
unfolding extension_over
over level lists =
    keeps-first (keeps-gives Num keeps-number (λ x. refl)) (apart-alt _ _ (apart-gives _ Str (λ s t g. number_denied _ (text_no_digit s t))) (number_apart level))
    (keeps-first (keeps-anywhere (keeps-gives Str keeps-nstring_utf8 (λ x. refl))) (text_apart level) (keeps-anywhere lists))

keeps_extension_list : (level : ℕ) → SpellsAndReadsBack (extension_list level) lent_extension canonical_extension spells_extension Any
unfolding extension_list bracketed_extensions some_extensions
keeps_extension_list zero = record { spelled = spells-never; back = reads-never }
keeps_extension_list (suc level) =
    let members = keeps-nonempty_list_of (over level (keeps_extension_list level)) (λ t. refl) (λ t. refl) in
    record {
      spelled =
          spells-gives list_of_extensions
          (spells-wider members.spelled (λ es c (a, b, cut, open_, (x, y, cut', inner, close)). (a, b, cut, open_, (x, y, cut', members_spell es x inner, close))));
      back =
          reads-gives list_of_extensions (reads-same members.back (λ es. ap (λ p. words "(" then p then words ")") (sym (same_members es))))
          (λ es. ap Listed (sym (lent_members es)));
    }

pub keeps_extension : (level : ℕ) → SpellsAndReadsBack (extension level) lent_extension canonical_extension spells_extension (BeginsWith not_digit)
keeps_extension level = over level (keeps_extension_list level)

-- ---- what stands behind the fields

field_spelt : {A : Type 0} (S : Option A → Texts) (x : Option A) (c : Bytes) → behind_space (S x) c → spells_field S x c
field_spelt S None c h = inr h
field_spelt S (Some x) c h = h

-- a field without a value is written NIL
module _ {A : Type 0} {a : Rule (Option A)} {l : Option A → Option A} {c : Option A → Pieces} {S : Option A → Texts} where
  keeps_field : SpellsAndReadsBack a l c S Any → c None ≡ words "NIL" → ((t : Bytes) → (meaning a).yields (codes "NIL" ++ t) None t) → l None ≡ None
      → SpellsAndReadsBack (maybe_spaced a) l (λ x. space then c x) (spells_field S) Any
  keeps_field h e read none =
      let spaced = keeps_spaced h in
      record {
        spelled = spells-gives flat (spells-gives Some (spells-wider spaced.spelled (field_spelt S)) orˢ spells-nothing None (inl refl));
        back =
            reads-opt_opt spaced.back
            (λ t g. after-on sp a _ (32 ∷ []) _ None t (tag-on _ (codes " ") (32 ∷ []) _ refl) (subst (λ q. (meaning a).yields (written q ++ t) None t) (sym e) (read t))) none;
      }

params_nil : (t : Bytes) → (meaning body_fld_param).yields (codes "NIL" ++ t) None t
unfolding body_fld_param
params_nil t = nil_or-none _ t

disposition_nil : (t : Bytes) → (meaning body_fld_dsp).yields (codes "NIL" ++ t) None t
unfolding body_fld_dsp
disposition_nil t = nil_or-none _ t

language_nil : (t : Bytes) → (meaning body_fld_lang).yields (codes "NIL" ++ t) None t
unfolding body_fld_lang
language_nil t = on-first (gives one_language nstring_utf8) language_list _ None t (gives-on one_language nstring_utf8 _ None t (nil_read t))

keeps_last : SpellsAndReadsBack last_extension (option_map lent_extension) canonical_last spells_last Closes
unfolding last_extension body_extension
keeps_last =
    keeps-opt refl refl (keeps_spaced (keeps-follow (keeps_extension 100) (closes-in not_digit refl refl))) (λ t g. denies-after _ _ _ (closes_space t g)) (λ x. refl) refl

pub keeps_ext_1part : SpellsAndReadsBack body_ext_1part lent_ext_1part canonical_ext_1part spells_ext_1part Closes
unfolding body_ext_1part
keeps_ext_1part =
    let text = keeps_field keeps-nstring_utf8 refl nil_read refl in
    keeps-gives ext_1part_of (text ⨾ᵏ keeps_field keeps_disposition refl disposition_nil refl ⨾ᵏ keeps_field keeps_language refl language_nil refl ⨾ᵏ text ⨾ᵏ keeps_last) (λ x. refl)

pub keeps_ext_mpart : SpellsAndReadsBack body_ext_mpart lent_ext_mpart canonical_ext_mpart spells_ext_mpart Closes
unfolding body_ext_mpart
keeps_ext_mpart =
    keeps-gives ext_mpart_of
    (keeps_field keeps_params refl params_nil refl ⨾ᵏ keeps_field keeps_disposition refl disposition_nil refl ⨾ᵏ keeps_field keeps_language refl language_nil refl
    ⨾ᵏ keeps_field keeps-nstring_utf8 refl nil_read refl ⨾ᵏ keeps_last)
    (λ x. refl)
