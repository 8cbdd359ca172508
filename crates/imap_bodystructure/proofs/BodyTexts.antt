-- Structures of bodies read back, by induction over their levels.
use Rattle.std.proofs.Common.{◌≡◌, ℕ, zero, suc, List, [], ◌∷◌, ◌++◌, sym, ap, refl, inl, map}
use Rattle.imap_grammar.specs.Meaning.{Denies}
use Rattle.imap_grammar.specs.Rule.{Rule, meaning}
use Rattle.imap_grammar.specs.Text.{Bytes}
use Rattle.imap_grammar.specs.Pieces.{Pieces, written, space, ◌then◌, each}
use Rattle.imap_grammar.specs.ReadBack.{SpellsAndReadsBack, Apart, Any, Closes}
use Rattle.imap_grammar.specs.Spelling.{each_of, some_each_of}
use Rattle.imap_grammar.proofs.Reading.{reads-same, reads-never, reads-some1, apart-gives, apart-alt, denies-gives, denials, denies-after, denies-tag, Begins, begun}
use Rattle.imap_grammar.proofs.Spelling.{spells-wider, spells-never, spells-some1}
use Rattle.imap_grammar.proofs.Keeping.{keeps-word, keeps-tag, keeps-before, keeps-seq, ◌⨾ᵏ◌, keeps-gives, keeps-wider, keeps-first}
use Rattle.imap_bytes.specs.Strings.{string, quoted, literal_header, literal}
use Rattle.imap_bytes.specs.Texts.{string_utf8}
use Rattle.imap_bytes.proofs.Keeping.{keeps-number, keeps-string_utf8}
use Rattle.imap_body_types.specs.BodyValues.{BodyValue, Multipart, Bodies, one_body, bodies_of}
use Rattle.imap_body_types.specs.Lent.{lent_body, lent_bodies}
use Rattle.imap_envelopes.proofs.EnvelopeTexts.{keeps_spaced, keeps_envelope}
use Rattle.imap_bodystructure.specs.Bodies.{text_of_parts, message_of, basic_of, multipart_of, body_type_text, message_word, body_type_msg, body_type_basic, some_bodies, body_type_mpart, body_type, bracketed_body, body, body_structure}
use Rattle.imap_bodystructure.specs.BodyTexts.{canonical_inside, canonical_each, canonical_body, spells_inside, spells_bodies, spells_each, spells_body}
use Rattle.imap_bodystructure.proofs.FieldTexts.{keeps_fields}
use Rattle.imap_bodystructure.proofs.ExtensionTexts.{keeps_ext_1part, keeps_ext_mpart}

-- ---- lists of bodies

same_each : (bs : List BodyValue) → canonical_each (bodies_of bs) ≡ each canonical_body bs
same_each [] = refl
same_each (b ∷ bs) = ap (λ p. canonical_body b then p) (same_each bs)

lent_each : (bs : List BodyValue) → lent_bodies (bodies_of bs) ≡ bodies_of (map lent_body bs)
lent_each [] = refl
lent_each (b ∷ bs) = ap (λ x. one_body (lent_body b) x) (lent_each bs)

each_spells : (bs : List BodyValue) (c : Bytes) → each_of spells_body bs c → spells_each (bodies_of bs) c
each_spells [] c h = h
each_spells (b ∷ bs) c (x, y, cut, here, others) = (x, y, cut, here, each_spells bs y others)

bodies_spell : (bs : List BodyValue) (c : Bytes) → some_each_of spells_body bs c → spells_bodies (bodies_of bs) c
bodies_spell [] c h = h
bodies_spell (b ∷ bs) c (x, y, cut, here, others) = (x, y, cut, here, each_spells bs y others)

-- ---- each type

keeps_text : SpellsAndReadsBack body_type_text lent_body canonical_inside spells_inside Closes
unfolding body_type_text
keeps_text =
    keeps-gives text_of_parts
    (keeps-wider
    (keeps-word "\"TEXT\"" (keeps_spaced keeps-string_utf8 ⨾ᵏ keeps-seq (keeps_spaced keeps_fields) (keeps-seq (keeps_spaced keeps-number) keeps_ext_1part (λ y t g. refl)) (λ y t g. refl)))
    (λ v c h. (refl, h)))
    (λ x. refl)

keeps_basic : SpellsAndReadsBack body_type_basic lent_body canonical_inside spells_inside Closes
unfolding body_type_basic
keeps_basic = keeps-gives basic_of (keeps-string_utf8 ⨾ᵏ keeps_spaced keeps-string_utf8 ⨾ᵏ keeps-seq (keeps_spaced keeps_fields) keeps_ext_1part (λ y t g. refl)) (λ x. refl)

-- a multipart of other bodies
abbrev with_bodies : BodyValue → Bodies → BodyValue
with_bodies (Multipart common old last) inside = Multipart common inside last
with_bodies other inside = other

-- a space is no body
abbrev NoSpace : Rule BodyValue → Type 0
NoSpace inner = (t : Bytes) → Denies (meaning inner) (32 ∷ t)

abbrev KeepsBody : Rule BodyValue → Type 0
KeepsBody inner = SpellsAndReadsBack inner lent_body canonical_body spells_body Any

module _ {inner : Rule BodyValue} where
  keeps_message : KeepsBody inner → SpellsAndReadsBack (body_type_msg inner) lent_body canonical_inside spells_inside Closes
  unfolding body_type_msg message_word
  keeps_message h =
      keeps-gives message_of
      (keeps-wider
      (keeps-word "\"MESSAGE\" \"RFC822\""
      (keeps-seq (keeps_spaced keeps_fields) (keeps_spaced keeps_envelope ⨾ᵏ keeps_spaced h ⨾ᵏ keeps-seq (keeps_spaced keeps-number) keeps_ext_1part (λ y t g. refl)) (λ y t g. refl)))
      (λ v c h. (refl, (refl, h))))
      (λ x. refl)

  keeps_bodies : NoSpace inner → KeepsBody inner → SpellsAndReadsBack (some_bodies inner) (map lent_body) (λ bs. canonical_each (bodies_of bs)) (λ bs. spells_bodies (bodies_of bs)) (Begins 32)
  unfolding some_bodies
  keeps_bodies none h = record {
    spelled = spells-wider (spells-some1 h.spelled) bodies_spell;
    back = reads-same (reads-some1 h.back (λ y t. tt) (λ t g. tt) (begun _ none)) (λ bs. sym (same_each bs));
  }

  keeps_multipart : NoSpace inner → KeepsBody inner → SpellsAndReadsBack (body_type_mpart inner) lent_body canonical_inside spells_inside Closes
  unfolding body_type_mpart
  keeps_multipart none h =
      keeps-gives multipart_of
      (keeps-wider (keeps-seq (keeps_bodies none h) (keeps_spaced keeps-string_utf8 ⨾ᵏ keeps_ext_mpart) (λ y t g. (_, refl))) (λ v c h. (refl, h)))
      (λ x. ap (with_bodies (lent_body (multipart_of x))) (sym (lent_each x.0)))

-- ---- which type it is

-- what holds of all that begins with a bracket or with a space, holds of a multipart's text
of_multipart : (P : Bytes → Type 0) → ((u : Bytes) → P (40 ∷ u)) → ((u : Bytes) → P (32 ∷ u)) → (bs : List BodyValue) (q : Pieces) (t : Bytes) → P (written (canonical_each (bodies_of bs) then space then q) ++ t)
of_multipart P bracket gap [] q t = gap _
of_multipart P bracket gap (b ∷ bs) q t = bracket _

abbrev NoMultipart : Rule BodyValue → Type 0
NoMultipart a = ((u : Bytes) → Denies (meaning a) (40 ∷ u)) × ((u : Bytes) → Denies (meaning a) (32 ∷ u))

multipart_apart : (a inner : Rule BodyValue) → NoMultipart a → Apart a (body_type_mpart inner) canonical_inside Closes
unfolding body_type_mpart
multipart_apart a inner none = apart-gives _ multipart_of (λ v t g. of_multipart (λ m. Denies (meaning a) m) none.0 none.1 v.0 _ t)

text_no_multipart : NoMultipart body_type_text
unfolding body_type_text
text_no_multipart = (λ u. search denials depth 20, λ u. search denials depth 20)

message_no_multipart : (inner : Rule BodyValue) → NoMultipart (body_type_msg inner)
unfolding body_type_msg message_word
message_no_multipart inner = (λ u. search denials depth 20, λ u. search denials depth 20)

basic_no_multipart : NoMultipart body_type_basic
unfolding body_type_basic string_utf8 string quoted literal literal_header
basic_no_multipart = (λ u. search denials depth 20, λ u. search denials depth 20)

text_message : (inner : Rule BodyValue) → Apart body_type_text (body_type_msg inner) canonical_inside Closes
unfolding body_type_text body_type_msg
text_message inner = apart-gives _ message_of (λ x t g. denies-gives _ _ _ (denies-after _ _ _ (denies-tag _ _ _ refl)))

text_basic : Apart body_type_text body_type_basic canonical_inside Closes
unfolding body_type_text body_type_basic
text_basic = apart-gives _ basic_of (λ x t g. denies-gives _ _ _ (denies-after _ _ _ (denies-tag _ _ _ refl)))

message_basic : (inner : Rule BodyValue) → Apart (body_type_msg inner) body_type_basic canonical_inside Closes
unfolding body_type_msg message_word body_type_basic
message_basic inner = apart-gives _ basic_of (λ x t g. denies-gives _ _ _ (denies-after _ _ _ (denies-tag _ _ _ refl)))

keeps_type : (inner : Rule BodyValue) → NoSpace inner → KeepsBody inner → SpellsAndReadsBack (body_type inner) lent_body canonical_inside spells_inside Closes
unfolding body_type
keeps_type inner none h =
    keeps-first keeps_text (apart-alt _ _ (text_message inner) (apart-alt _ _ text_basic (multipart_apart _ inner text_no_multipart)))
    (keeps-first (keeps_message h) (apart-alt _ _ (message_basic inner) (multipart_apart _ inner (message_no_multipart inner)))
    (keeps-first keeps_basic (multipart_apart _ inner basic_no_multipart) (keeps_multipart none h)))

-- ---- levels

no_space : (level : ℕ) → NoSpace (body level)
unfolding meaning body bracketed_body
no_space zero t = refl
no_space (suc level) t = inl refl

pub keeps_body : (level : ℕ) → KeepsBody (body level)
unfolding body bracketed_body
keeps_body zero = record { spelled = spells-never; back = reads-never }
keeps_body (suc level) = keeps-tag "(" (keeps-before ")" (keeps_type (body level) (no_space level) (keeps_body level)) (λ t. refl))

pub keeps_body_structure : KeepsBody body_structure
unfolding body_structure
keeps_body_structure = keeps_body 100
