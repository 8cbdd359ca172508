-- Attributes of a message: what their rules take spells them, and their canonical texts read back.
use Rattle.std.proofs.Common.{◌≡◌, ◌++◌, IsTrue, true, Option, None, Some, sym, subst, refl, inl, inr, codes, map, arith}
use lib.Utf8.{encode}
use Rattle.std.specs.Str.{is_utf8}
use Rattle.std.proofs.lemmas.Str.{is_utf8-from_IsUtf8}
use Rattle.imap_grammar.specs.Classes.{is_atom_char, is_astring_char}
use Rattle.imap_grammar.specs.Meaning.{Denies, differs}
use Rattle.imap_grammar.specs.Rule.{Rule, meaning, gives, nothing, opt, run1, ◌▹◌}
use Rattle.imap_grammar.specs.Text.{Bytes, Text, as_text, lent_text}
use Rattle.imap_grammar.specs.Tags.{same_letter, word, sp, maybe_space}
use Rattle.imap_grammar.specs.Pieces.{written, plain, ntext}
use Rattle.imap_grammar.specs.ReadBack.{Spells, SpellsAndReadsBack, Apart, Any, BeginsWith, EndsItem, as_is}
use Rattle.imap_grammar.specs.Spelling.{all_of, some_of, maybe, exactly, ◌and◌, as_it_is, utf8_of}
use Rattle.imap_grammar.proofs.Yields.{Yields, right_yields, named_yields}
use Rattle.imap_grammar.proofs.Reading.{reads-gives, reads-after, reads-follow, reads-test, reads-run1, after-on, apart-where, apart-alt, apart-gives, denials, denies-after, denies-behind, denies-tag, test-on, tag-on, takes-absent, Begins, begun, ends_item-in}
use Rattle.imap_grammar.proofs.Spelling.{◌▹ˢ◌, ◌◃ˢ◌, ◌orˢ◌, spells-gives, spells-wider, spells-where, spells-names, spells-tag, spells-utf8, spells-run0, spells-run1, spells-maybe_space}
use Rattle.imap_grammar.proofs.Keeping.{keeps-word, keeps-tag, keeps-before, keeps-seq, ◌⨾ᵏ◌, keeps-gives, keeps-follow, keeps-anywhere, keeps-first, keeps-opt, keeps-nonempty_list_of}
use Rattle.imap_bytes.proofs.ReadingTexts.{not_digit, nil_or-none}
use Rattle.imap_bytes.proofs.SpellingTexts.{spells-nstring}
use Rattle.imap_bytes.specs.Strings.{atom, string, nstring}
use Rattle.imap_bytes.proofs.Keeping.{keeps-number, keeps-number_64, keeps-string_utf8, keeps-nstring_utf8, keeps-nil_or}
use Rattle.imap_shared.proofs.GmailTexts.{keeps_label_list, keeps_msgid, keeps_thrid}
use Rattle.imap_shared.proofs.FlagTexts.{keeps_flag_list}
use Rattle.imap_body_types.specs.BodyValues.{BodyValue}
use Rattle.imap_body_types.specs.Lent.{lent_ntext}
use Rattle.imap_envelopes.specs.Envelopes.{byte_string}
use Rattle.imap_envelopes.proofs.EnvelopeTexts.{keeps_spaced, keeps_byte_string, keeps_envelope}
use Rattle.imap_envelopes.specs.EnvelopeTexts.{spells_bytes}
use Rattle.imap_bodystructure.specs.Bodies.{body_structure}
use Rattle.imap_bodystructure.proofs.BodyTexts.{keeps_body_structure}
use Rattle.imap_sections.specs.Sections.{section}
use Rattle.imap_sections.proofs.SectionTexts.{keeps_section}
use Rattle.imap_body.proofs.AttributeFirstBytes.{worded_rules}
use Rattle.imap_body.proofs.Behind.{Alike, given_behind, alike_behind, alike_through, apart-alike, apart-behind, keeps-behind, keeps-alike}
use Rattle.imap_body.specs.AttributeValues as said
use Rattle.imap_body.specs.Changed.{lent_attribute}
use Rattle.imap_body.specs.Attributes.{origin, section_of, section_contents, msg_att_body_section, msg_att_body_structure, msg_att_envelope, date, msg_att_internal_date, msg_att_flags, msg_att_mod_seq, msg_att_rfc822, msg_att_rfc822_header, msg_att_rfc822_size, msg_att_rfc822_text, msg_att_uid, msg_att_gmail_labels, msg_att_gmail_msgid, msg_att_gmail_thrid, id_bytes, object_id, bracketed_id, msg_att_email_id, msg_att_thread_id, msg_att_save_date, is_within_brackets, is_bare, skipped_brackets, skipped_nstring, skipped_bare, skipped_value, msg_att_unknown, attribute, attribute_list}
use Rattle.imap_body.specs.AttributeTexts.{canonical_origin, canonical_id, canonical_nid, canonical_attribute, canonical_attributes, spells_origin, spells_id, any_name, any_value, spells_attribute, spells_attributes, AttributeReadsBack}

-- what ends an item ends a number
ends_number : (t : Bytes) → EndsItem t → BeginsWith not_digit t
ends_number = ends_item-in not_digit refl refl refl

-- ---- sections with their contents

keeps_origin : SpellsAndReadsBack (opt origin) as_is canonical_origin spells_origin (Begins 32)
unfolding origin
keeps_origin =
    keeps-opt refl refl (keeps-tag "<" (keeps-anywhere (keeps-before ">" keeps-number (λ t. refl))))
    (begun _ (λ u. denies-after _ _ _ (denies-tag _ _ _ refl))) (λ x. refl) refl

pub keeps_body_section : AttributeReadsBack msg_att_body_section
unfolding msg_att_body_section section_contents
keeps_body_section =
    keeps-behind section_of
    (keeps-word "BODY" (keeps_section ⨾ᵏ keeps-seq keeps_origin (keeps-anywhere (keeps_spaced keeps_byte_string)) (λ y t g. (_, refl))))
    (λ x. refl)

-- ---- a word and its value

keeps_structure : AttributeReadsBack msg_att_body_structure
unfolding msg_att_body_structure
keeps_structure = keeps-behind said.BodyStructure (keeps-word "BODYSTRUCTURE " (keeps-anywhere keeps_body_structure)) (λ x. refl)

keeps_msg_envelope : AttributeReadsBack msg_att_envelope
unfolding msg_att_envelope
keeps_msg_envelope = keeps-behind said.Envelope (keeps-word "ENVELOPE " (keeps-anywhere keeps_envelope)) (λ x. refl)

keeps_rfc822 : AttributeReadsBack msg_att_rfc822
unfolding msg_att_rfc822
keeps_rfc822 = keeps-behind said.Rfc822 (keeps-word "RFC822 " (keeps-anywhere keeps_byte_string)) (λ x. refl)

keeps_text : AttributeReadsBack msg_att_rfc822_text
unfolding msg_att_rfc822_text
keeps_text = keeps-behind said.Rfc822Text (keeps-word "RFC822.TEXT " (keeps-anywhere keeps_byte_string)) (λ x. refl)

keeps_size : AttributeReadsBack msg_att_rfc822_size
unfolding msg_att_rfc822_size
keeps_size = keeps-behind said.Rfc822Size (keeps-word "RFC822.SIZE " (keeps-follow keeps-number ends_number)) (λ x. refl)

keeps_date : AttributeReadsBack msg_att_internal_date
unfolding msg_att_internal_date date
keeps_date = keeps-behind said.InternalDate (keeps-word "INTERNALDATE " (keeps-anywhere keeps-string_utf8)) (λ x. refl)

keeps_flags : AttributeReadsBack msg_att_flags
unfolding msg_att_flags
keeps_flags = keeps-behind said.Flags (keeps-word "FLAGS " (keeps-anywhere keeps_flag_list)) (λ x. refl)

keeps_mod_seq : AttributeReadsBack msg_att_mod_seq
unfolding msg_att_mod_seq
keeps_mod_seq =
    keeps-behind said.ModSeq (keeps-word "MODSEQ " (keeps-tag "(" (keeps-anywhere (keeps-before ")" keeps-number_64 (λ t. refl))))) (λ x. refl)

keeps_uid : AttributeReadsBack msg_att_uid
unfolding msg_att_uid
keeps_uid = keeps-behind said.Uid (keeps-word "UID " (keeps-follow keeps-number ends_number)) (λ x. refl)

keeps_save_date : AttributeReadsBack msg_att_save_date
unfolding msg_att_save_date
keeps_save_date = keeps-behind said.SaveDate (keeps-word "SAVEDATE " (keeps-anywhere keeps-nstring_utf8)) (λ x. refl)

-- ---- Gmail's items

keeps_labels : AttributeReadsBack msg_att_gmail_labels
unfolding msg_att_gmail_labels
keeps_labels = keeps-gives said.GmailLabels (keeps-anywhere keeps_label_list) (λ x. refl)

keeps_gmail_msgid : AttributeReadsBack msg_att_gmail_msgid
unfolding msg_att_gmail_msgid
keeps_gmail_msgid = keeps-gives said.GmailMsgId keeps_msgid (λ x. refl)

keeps_gmail_thrid : AttributeReadsBack msg_att_gmail_thrid
unfolding msg_att_gmail_thrid
keeps_gmail_thrid = keeps-gives said.GmailThrId keeps_thrid (λ x. refl)

-- ---- identifiers of objects

keeps_object_id : SpellsAndReadsBack object_id lent_text plain (λ id. as_it_is (utf8_of is_astring_char) id.bytes) (Begins 41)
unfolding object_id id_bytes
keeps_object_id = record {
  spelled = spells-gives as_text (spells-utf8 is_astring_char);
  back = reads-gives as_text (reads-follow (reads-test is_utf8 (reads-run1 is_astring_char) (λ v e. e)) (begun _ (λ u. refl))) (λ x. refl);
}

keeps_id : SpellsAndReadsBack bracketed_id lent_text canonical_id spells_id Any
unfolding bracketed_id
keeps_id = keeps-tag "(" (keeps-before ")" keeps_object_id (λ t. (t, refl)))

keeps_email_id : AttributeReadsBack msg_att_email_id
unfolding msg_att_email_id
keeps_email_id = keeps-behind said.EmailId (keeps-word "EMAILID " (keeps-anywhere keeps_id)) (λ x. refl)

keeps_thread_id : AttributeReadsBack msg_att_thread_id
unfolding msg_att_thread_id
keeps_thread_id =
    keeps-behind said.ThreadId
    (keeps-word "THREADID " (keeps-nil_or {l = lent_ntext} {c = canonical_nid} refl (keeps-anywhere keeps_id) (λ x t g. refl) refl (λ x. refl))) (λ x. refl)

-- ---- a header, maybe behind one more space

header_alike : Alike msg_att_rfc822_header (gives said.Rfc822Header (word "RFC822.HEADER " ▹ maybe_space ▹ byte_string))
unfolding msg_att_rfc822_header
header_alike = alike_through (alike_behind (word "RFC822.HEADER ") (given_behind maybe_space said.Rfc822Header byte_string)) (given_behind (word "RFC822.HEADER ") said.Rfc822Header (maybe_space ▹ byte_string))

-- no space begins a byte string
no_space : (b : Option Text) (t : Bytes) → Denies (meaning sp) (written (ntext b) ++ t)
no_space None t = denies-tag _ _ _ refl
no_space (Some b) t = denies-tag _ _ _ refl

keeps_contents : SpellsAndReadsBack (maybe_space ▹ byte_string) lent_ntext ntext (λ b. maybe (exactly " ") and spells_bytes b) Any
keeps_contents = record {
  spelled = spells-maybe_space ▹ˢ keeps_byte_string.spelled;
  back = reads-after {G = Any} (takes-absent sp {F = λ t. Denies (meaning sp) t} (λ t g. g)) keeps_byte_string.back (λ y t g. no_space y t);
}

keeps_header : AttributeReadsBack msg_att_rfc822_header
keeps_header = keeps-alike header_alike (keeps-gives said.Rfc822Header (keeps-word "RFC822.HEADER " (keeps-anywhere keeps_contents)) (λ x. refl))

header_apart : {A : Type 0} {a : Rule A} → ((x : Option Text) (t : Bytes) → EndsItem t → Denies (meaning a) (written (canonical_attribute (said.Rfc822Header x)) ++ t)) → Apart a msg_att_rfc822_header canonical_attribute EndsItem
header_apart h = apart-alike header_alike (apart-gives _ said.Rfc822Header h)

-- ---- any other attribute

x_utf8 : is_utf8 (codes "X") ≡ true
unfolding encode
x_utf8 = is_utf8-from_IsUtf8 (codes "X") (codes "X", (refl, refl))

unknown_on : (t : Bytes) → (meaning msg_att_unknown).yields (codes "X NIL" ++ t) said.Unknown t
unfolding meaning msg_att_unknown atom skipped_value skipped_brackets skipped_nstring nstring
unknown_on t =
    let name : (meaning atom).yields (codes "X NIL" ++ t) (codes "X") (codes " NIL" ++ t) = test-on is_utf8 (run1 is_atom_char) _ (codes "X") _ ((refl, refl, refl), omega arith) x_utf8 in
    after-on atom (sp ▹ skipped_value ▹ nothing said.Unknown) _ (codes "X") (codes " NIL" ++ t) said.Unknown t name
    (after-on sp (skipped_value ▹ nothing said.Unknown) _ (codes " ") (codes "NIL" ++ t) said.Unknown t (refl, refl)
    (after-on skipped_value (nothing said.Unknown) _ tt t said.Unknown t (inr (inl refl, inl (None, nil_or-none string t, refl))) (refl, refl)))

unknown_yields : Yields (λ v. v ≡ said.Unknown) msg_att_unknown
unfolding msg_att_unknown
unknown_yields = right_yields (right_yields (named_yields refl))

name_spells : Spells atom (λ _. any_name)
unfolding atom
name_spells = spells-wider (spells-utf8 is_atom_char) (λ v c h. subst any_name (sym h.0) h.1)

value_spells : Spells skipped_value (λ _. any_value)
unfolding skipped_value skipped_brackets skipped_nstring skipped_bare
value_spells =
    spells-gives _ (spells-wider (spells-tag "(" ▹ˢ spells-wider (spells-run0 is_within_brackets) (λ v c h. subst (all_of is_within_brackets) (sym h.0) h.1) ◃ˢ spells-tag ")") (λ v c h. inl h))
    orˢ spells-gives _ (spells-wider spells-nstring (λ v c h. inr (inl (v, h))))
    orˢ spells-gives _ (spells-wider (spells-run1 is_bare) (λ v c h. inr (inr (subst (some_of is_bare) (sym h.0) h.1))))

keeps_unknown : AttributeReadsBack msg_att_unknown
unfolding msg_att_unknown
keeps_unknown = record {
  spelled =
      spells-where unknown_yields (name_spells ▹ˢ spells-tag " " ▹ˢ spells-names {T = λ _. any_value} said.Unknown value_spells)
      (λ v c e h. subst (λ w. spells_attribute w c) (sym e) h);
  back = record {
    again = λ m v rest y f t g.
        subst (λ w. (meaning msg_att_unknown).yields (written (canonical_attribute w) ++ t) (lent_attribute w) t) (sym (unknown_yields.each m v rest y)) (unknown_on t);
  };
}

unknown_apart : {A : Type 0} {a : Rule A} → ((t : Bytes) → Denies (meaning a) (codes "X NIL" ++ t)) → Apart a msg_att_unknown canonical_attribute EndsItem
unknown_apart {a = a} h = apart-where unknown_yields (λ v t e g. subst (λ w. Denies (meaning a) (written (canonical_attribute w) ++ t)) (sym e) (h t))

-- ---- the choice

denies_structure : (m : Bytes) → IsTrue (differs same_letter (codes "BODYSTRUCTURE ") m) → Denies (meaning msg_att_body_structure) m
unfolding msg_att_body_structure
denies_structure m d = denies-after _ _ _ (denies-tag _ _ _ d)

denies_header : (m : Bytes) → IsTrue (differs same_letter (codes "RFC822.HEADER ") m) → Denies (meaning msg_att_rfc822_header) m
unfolding msg_att_rfc822_header
denies_header m d = denies-after _ _ _ (denies-tag _ _ _ d)

-- `BODY` that goes on with a letter has no section
structure_no_section : (b : BodyValue) (t : Bytes) → Denies (meaning msg_att_body_section) (written (canonical_attribute (said.BodyStructure b)) ++ t)
unfolding msg_att_body_section section_contents section
structure_no_section b t = denies-behind (word "BODY") _ _ (codes "BODY") _ (tag-on same_letter (codes "BODY") (codes "BODY") _ refl) (search denials depth 10)

structure_apart : Apart msg_att_body_section msg_att_body_structure canonical_attribute EndsItem
unfolding msg_att_body_structure
structure_apart = apart-behind (word "BODYSTRUCTURE ") said.BodyStructure body_structure (apart-gives _ said.BodyStructure (λ x t g. structure_no_section x t))

denies_section : (m : Bytes) → IsTrue (differs same_letter (codes "BODY") m) → Denies (meaning msg_att_body_section) m
unfolding msg_att_body_section
denies_section m d = denies-after _ _ _ (denies-tag _ _ _ d)

ruleset attribute_forms = (apart-alt, structure_apart, header_apart, unknown_apart, apart-behind, apart-gives, denies_section, denies_structure, denies_header, denies-after, denials)

pub keeps_attribute : AttributeReadsBack attribute
unfolding worded_rules
keeps_attribute =
    keeps-first keeps_body_section (search attribute_forms depth 40)
    (keeps-first keeps_structure (search attribute_forms depth 40)
    (keeps-first keeps_msg_envelope (search attribute_forms depth 40)
    (keeps-first keeps_date (search attribute_forms depth 40)
    (keeps-first keeps_flags (search attribute_forms depth 40)
    (keeps-first keeps_mod_seq (search attribute_forms depth 40)
    (keeps-first keeps_rfc822 (search attribute_forms depth 40)
    (keeps-first keeps_header (search attribute_forms depth 40)
    (keeps-first keeps_size (search attribute_forms depth 40)
    (keeps-first keeps_text (search attribute_forms depth 40)
    (keeps-first keeps_uid (search attribute_forms depth 40)
    (keeps-first keeps_labels (search attribute_forms depth 40)
    (keeps-first keeps_gmail_msgid (search attribute_forms depth 40)
    (keeps-first keeps_gmail_thrid (search attribute_forms depth 40)
    (keeps-first keeps_email_id (search attribute_forms depth 40)
    (keeps-first keeps_thread_id (search attribute_forms depth 40)
    (keeps-first keeps_save_date (search attribute_forms depth 40)
    keeps_unknown))))))))))))))))

pub keeps_attribute_list : SpellsAndReadsBack attribute_list (map lent_attribute) canonical_attributes spells_attributes Any
unfolding attribute_list
keeps_attribute_list = keeps-nonempty_list_of keeps_attribute (λ t. refl) (λ t. refl)
