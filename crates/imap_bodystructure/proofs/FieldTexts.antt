-- Fields of bodies: what their rules take spells them, and their canonical texts read back.
use Rattle.std.proofs.Common.{◌≡◌, ◌∷◌, ◌++◌, subst, [], refl, inl, inr, codes}
use Rattle.imap_grammar.specs.Meaning.{Denies}
use Rattle.imap_grammar.specs.Rule.{Rule, meaning, gives, nothing, ◌▹◌, ◌or◌}
use Rattle.imap_grammar.specs.Text.{Bytes}
use Rattle.imap_grammar.specs.Pieces.{Pieces, ◌then◌, words, written}
use Rattle.imap_grammar.specs.ReadBack.{Texts, SpellsAndReadsBack, Apart, Any, BeginsWith}
use Rattle.imap_grammar.specs.Spelling.{exactly, ◌and◌, in_any_case}
use Rattle.imap_grammar.proofs.Yields.{Yields, either_yields, named_yields, left_yields, right_yields}
use Rattle.imap_grammar.proofs.Reading.{first, reads-where, apart_forms, denies-after, denies-tag, apart-where}
use Rattle.imap_grammar.proofs.Spelling.{◌orˢ◌, spells-wider, spells-names, spells-word}
use Rattle.imap_grammar.proofs.Keeping.{keeps-names, keeps-tag, keeps-before, keeps-gives, keeps-first, keeps-nonempty_list_of, ◌⨾ᵏ◌}
use Rattle.imap_grammar.proofs.ReadingChoices.{reads-later_one}
use Rattle.imap_bytes.specs.Strings.{nil}
use Rattle.imap_bytes.specs.Texts.{string_utf8}
use Rattle.imap_bytes.proofs.ReadingTexts.{not_digit}
use Rattle.imap_bytes.proofs.Keeping.{keeps-number, keeps-string_utf8, keeps-nstring_utf8, keeps-nil_or}
use Rattle.imap_body_types.specs.declared.shapes.fields.ContentEncoding.TheVariants.{SevenBit, EightBit, Binary, Base64, QuotedPrintable, Other}
use Rattle.imap_body_types.specs.FieldValues.{EncodingValue}
use Rattle.imap_body_types.specs.Lent.{lent_pair, lent_params, lent_encoding, lent_fields}
use Rattle.imap_envelopes.proofs.EnvelopeTexts.{keeps_spaced}
use Rattle.imap_bodystructure.specs.Fields.{body_param, some_params, body_fld_param, encoding_name, quoted_encoding, body_fld_enc, fields_of, body_fields}
use Rattle.imap_bodystructure.specs.FieldTexts.{canonical_pair, canonical_params, canonical_encoding, canonical_fields, spells_pair, spells_params, spells_encoding, spells_fields}

-- ---- parameters

keeps_param : SpellsAndReadsBack body_param lent_pair canonical_pair spells_pair Any
unfolding body_param
keeps_param = keeps-string_utf8 ⨾ᵏ keeps_spaced keeps-string_utf8

pub keeps_params : SpellsAndReadsBack body_fld_param lent_params canonical_params spells_params Any
unfolding body_fld_param some_params
keeps_params = keeps-nil_or refl (keeps-nonempty_list_of keeps_param (λ t. tt) (λ t. tt)) (λ x t g. refl) refl (λ x. refl)

-- ---- encodings

-- the name that stands in quotes, where there is one
abbrev name_text : EncodingValue → Pieces
name_text SevenBit = words "7BIT"
name_text EightBit = words "8BIT"
name_text Binary = words "BINARY"
name_text Base64 = words "BASE64"
name_text QuotedPrintable = words "QUOTED-PRINTABLE"
name_text (Other name) = []

abbrev IsNamed : EncodingValue → Type 0
IsNamed e = (words "\"" then name_text e then words "\"") ≡ canonical_encoding e

encoding_named : Yields IsNamed encoding_name
unfolding encoding_name
encoding_named = either_yields (named_yields refl) (either_yields (named_yields refl) (either_yields (named_yields refl) (either_yields (named_yields refl) (named_yields refl))))

abbrev spells_name : EncodingValue → Texts
spells_name SevenBit = in_any_case "7BIT"
spells_name EightBit = in_any_case "8BIT"
spells_name Binary = in_any_case "BINARY"
spells_name Base64 = in_any_case "BASE64"
spells_name QuotedPrintable = in_any_case "QUOTED-PRINTABLE"
spells_name (Other name) = λ c. ⊥

keeps_encoding_name : SpellsAndReadsBack encoding_name lent_encoding name_text spells_name Any
unfolding encoding_name
keeps_encoding_name =
    keeps-first (keeps-names "7BIT" SevenBit refl refl (λ c h. h)) (search apart_forms depth 20)
    (keeps-first (keeps-names "8BIT" EightBit refl refl (λ c h. h)) (search apart_forms depth 20)
    (keeps-first (keeps-names "BINARY" Binary refl refl (λ c h. h)) (search apart_forms depth 20)
    (keeps-first (keeps-names "BASE64" Base64 refl refl (λ c h. h)) (search apart_forms depth 20)
    (keeps-names "QUOTED-PRINTABLE" QuotedPrintable refl refl (λ c h. h)))))

in_quotes : (e : EncodingValue) (c : Bytes) → (exactly "\"" and spells_name e and exactly "\"") c → spells_encoding e c
in_quotes SevenBit c h = inl h
in_quotes EightBit c h = h
in_quotes Binary c h = h
in_quotes Base64 c h = h
in_quotes QuotedPrintable c h = h
in_quotes (Other name) c (a, b, cut, q, (x, y, cut', none, q')) = absurd none

keeps_quoted_encoding : SpellsAndReadsBack quoted_encoding lent_encoding canonical_encoding spells_encoding Any
unfolding quoted_encoding
keeps_quoted_encoding =
    let quoted = keeps-tag "\"" (keeps-before "\"" keeps_encoding_name (λ t. tt)) in
    record { spelled = spells-wider quoted.spelled in_quotes; back = reads-where (right_yields (left_yields encoding_named)) quoted.back (λ v e. e) }

seven_bit_named : (meaning (quoted_encoding or gives Other string_utf8)).yields (codes "\"7BIT\"") SevenBit []
unfolding meaning quoted_encoding encoding_name
seven_bit_named =
    let name = inl ((codes "7BIT", SevenBit), (34 ∷ [], (refl, refl), (refl, refl)), refl) in
    inl ((34 ∷ [], SevenBit), (codes "7BIT\"", (refl, refl), ((SevenBit, 34 ∷ []), (34 ∷ [], name, (refl, refl)), refl)), refl)

-- no encoding that stands in quotes begins as nil does
abbrev by_nil : Rule EncodingValue
by_nil = nil ▹ nothing SevenBit

nil_apart : Apart by_nil quoted_encoding canonical_encoding Any
unfolding nil quoted_encoding
nil_apart =
    apart-where (right_yields (left_yields encoding_named))
    (λ v t named g. subst (λ q. Denies (meaning by_nil) (written q ++ t)) named (denies-after _ _ _ (denies-tag _ _ _ refl)))

ruleset apart_encodings = (nil_apart, apart_forms)

pub keeps_encoding : SpellsAndReadsBack body_fld_enc lent_encoding canonical_encoding spells_encoding Any
unfolding body_fld_enc nil quoted_encoding
keeps_encoding =
    let other = keeps-gives Other keeps-string_utf8 (λ x. refl) in
    record {
      spelled = spells-names SevenBit (spells-wider (spells-word "NIL") (λ v c h. inr h)) orˢ keeps_quoted_encoding.spelled orˢ other.spelled;
      back =
          reads-later_one SevenBit (codes "\"7BIT\"") (named_yields refl) seven_bit_named (λ t g. denies-after _ _ _ (denies-tag _ _ _ refl))
          (first keeps_quoted_encoding.back (search apart_forms depth 20) other.back)
          (search apart_encodings depth 20);
    }

-- ---- fields

pub keeps_fields : SpellsAndReadsBack body_fields lent_fields canonical_fields spells_fields (BeginsWith not_digit)
unfolding body_fields
keeps_fields =
    let text = keeps_spaced keeps-nstring_utf8 in
    keeps-gives fields_of (keeps_params ⨾ᵏ text ⨾ᵏ text ⨾ᵏ keeps_spaced keeps_encoding ⨾ᵏ keeps_spaced keeps-number) (λ x. refl)
