-- Lines: what is taken spells the response, and its canonical text reads back.
use Rattle.std.proofs.Common.{◌≡◌, ℕ, ◌<◌, ◌^◌, Bool, true, false, not, ◌||◌, ◌==◌, nat_lt, List, [], ◌∷◌, ◌++◌, length, codes, decimal, cond, sym, subst, refl, inl, inr, append_assoc, arith}
use Prim.Native.String.{String}
use Rattle.std.specs.List.{list_all, list_any}
use Rattle.std.specs.Prelude.{IfOk, Ok, Err}
use Rattle.std.specs.Str.{is_utf8}
use Rattle.std.proofs.lemmas.Bool.{false≢true, and_parts, or_left, ltb-true}
use Rattle.imap_grammar.specs.Classes.{is_digit}
use Rattle.imap_grammar.specs.Meaning.{Denies, differs}
use Rattle.imap_grammar.specs.Rule.{Rule, meaning, gives, run1, ◌⨾◌, ◌or◌}
use Rattle.imap_grammar.specs.Step.{step}
use Rattle.imap_grammar.specs.Answer.{Returned, Gives}
use Rattle.imap_grammar.specs.Text.{Bytes, Text}
use Rattle.imap_grammar.specs.Tags.{same_letter, word, crlf}
use Rattle.imap_grammar.specs.Pieces.{Raw, Lit, Pieces, ◌then◌, words, raw, space, literal_text, separated, written, Fits}
use Rattle.imap_grammar.specs.ReadBack.{Texts, ReadsBackIf, Takes, Apart, Spells, Any, BeginsWith, Closes, SpellsAndReadsBack}
use Rattle.imap_grammar.specs.Spelling.{exactly, ◌and◌, all_of}
use Rattle.imap_grammar.proofs.Agreement.{agrees}
use Rattle.imap_grammar.proofs.Yields.{Yields, either_yields, given_yields, made_yields, left_yields, right_yields}
use Rattle.imap_grammar.proofs.Reading.{reads-test, reads-run1, apart-where, apart-alt, apart-gives, apart_forms, denials, denies-gives, denies-after, denies-alt, denies-behind, denies-tag, tag-on, written_on, run1-has, test-has, first_yields, takes-seq, takes-some, takes-bytes, Begins, begun}
use Rattle.imap_grammar.proofs.ReadingWords.{apart_byte}
use Rattle.imap_grammar.proofs.ReadingLists.{takes-text, takes-word, takes-none}
use Rattle.imap_grammar.proofs.ReadingIf.{if-all, seq-if, after-if, before-if, gives-if, alt-if}
use Rattle.imap_grammar.proofs.Spelling.{◌⨾ˢ◌, ◌▹ˢ◌, ◌◃ˢ◌, ◌orˢ◌, spells-gives, spells-wider, spells-where, spells-tag, spells-word, spells-crlf, spells-utf8, spells-run0, spells-maybe_space}
use Rattle.imap_grammar.proofs.Keeping.{keeps-word, keeps-seq, keeps-gives, keeps-follow, keeps-anywhere, keeps-wider, keeps-first}
use Rattle.imap_bytes.proofs.ReadingTexts.{not_digit, number_first}
use Rattle.imap_bytes.proofs.ReadingCounts.{number_starts, numbers_yield, reads-counted}
use Rattle.imap_bytes.proofs.SpellingTexts.{spells-number}
use Rattle.imap_bytes.proofs.Keeping.{keeps-number}
use Rattle.imap_shared.specs.Statuses.{status}
use Rattle.imap_shared.specs.Capabilities.{capability_data, enabled_data}
use Rattle.imap_shared.specs.CapabilityTexts.{canonical_each}
use Rattle.imap_shared.proofs.StatusTexts.{keeps_status}
use Rattle.imap_shared.proofs.CapabilityTexts.{offered_yields, enabled_yields, keeps_capability_data, keeps_enabled_data}
use Rattle.imap_shared.specs.StatusTexts.{canonical_status}
use Rattle.imap_extensions.specs.Quotas.{quota, quota_root}
use Rattle.imap_extensions.proofs.VanishingTexts.{keeps_vanished}
use Rattle.imap_extensions.proofs.QuotaTexts.{keeps_quota, keeps_quota_root}
use Rattle.imap_extensions.proofs.IdTexts.{keeps_id}
use Rattle.imap_extensions.proofs.AclTexts.{keeps_acl, keeps_my_rights}
use Rattle.imap_extensions.proofs.OptionalRights.{keeps_list_rights}
use Rattle.imap_extensions.specs.Acls.{ListRightsValue, MyRightsValue}
use Rattle.imap_data.specs.DatumValues.{Exists, Flags, Listed, Search, Sort, Recent, GmailLabels, GmailMsgId, GmailThrId}
use Rattle.imap_data.specs.MailboxData.{flags, exists, list, lsub, status_of, status as mailbox_status, recent, search as search_rule, labels, msgid, thrid, sort, mailbox_datum}
use Rattle.imap_data.specs.MailboxDataTexts.{canonical_datum}
use Rattle.imap_data.specs.Annotations.{metadata_mailbox, annotations}
use Rattle.imap_data.specs.AnnotationTexts.{canonical_metadata}
use Rattle.imap_data.proofs.AnnotationTexts.{keeps_metadata_mailbox}
use Rattle.imap_data.specs.Annotations.{solicited_of, unsolicited_of, metadata_solicited, metadata_unsolicited}
use Rattle.imap_data.proofs.AnnotationTexts.{keeps_solicited, keeps_unsolicited}
use Rattle.imap_data.proofs.MailboxDataTexts.{keeps_mailbox_datum}
use Rattle.imap_data.proofs.Rules.{last_rules}
use Rattle.imap_body.specs.AttributeTexts.{canonical_attributes}
use Rattle.imap_body.proofs.AttributeTexts.{keeps_attribute_list}
use Rattle.imap_proto.specs.Responses.{ResponseValue, Capabilities, Continue, Done, Expunge, MailboxData, Quota, QuotaRoot, Id, Acl, ListRights, MyRights, lent_response}
use Rattle.imap_proto.specs.Lines.{continuation, data_of, status_data, expunge, fetch_of, fetched, fetch, vanished_of, state_datum, extension_datum, datum, is_space, spaces, ended_datum, data_line, is_tag_char, request_tag, done_of, tagged, response}
use Rattle.imap_proto.specs.OutcomeTexts.{canonical_spaced, Ends}
use Rattle.imap_proto.specs.LineTexts.{line_end, canonical_data, canonical_response, spells_data, ends_line, spells_response, Spelled, has_bracket, is_too_long, CanonicalReadsBack}
use Rattle.imap_proto.proofs.Rules.{message_rules, state_rules, extension_rules}
use Rattle.imap_proto.proofs.OutcomeTexts.{reads_outcome, reads_spaced, outcome_spells, spaced_spells}
use Rattle.imap_proto.proofs.FirstApart.{one_of, StartsOneOf, denies_one_of, apart_first, digit_one_of, small_numbers, other_behind}

abbrev NoBracket : ResponseValue → Type 0
NoBracket r = has_bracket r ≡ false

ends_closes : (t : Bytes) → Ends t → Closes t
ends_closes = begun Closes (λ u. refl)

-- ---- each datum

-- what it takes spells the datum, whose canonical text reads back before the end of a line
abbrev KeepsDatum : Rule ResponseValue → Type 0
KeepsDatum a = SpellsAndReadsBack a lent_response canonical_data spells_data Ends

reads_status_data : ReadsBackIf NoBracket status_data lent_response canonical_data Ends
unfolding status_data
reads_status_data = gives-if data_of (seq-if keeps_status.back reads_spaced (λ y t g. tt)) (λ x. refl)

abbrev mailbox : Rule ResponseValue
mailbox = gives MailboxData mailbox_datum

keeps_mailbox : KeepsDatum mailbox
keeps_mailbox = keeps-gives MailboxData (keeps-follow keeps_mailbox_datum ends_closes) (λ x. refl)

at_end : {A : Type 0} {a : Rule A} {p : Pieces} → Takes a p Any → Takes a p Ends
at_end h = record { taken = λ f t g. h.taken f t tt }

keeps_expunge : KeepsDatum expunge
unfolding expunge
keeps_expunge = record {
  spelled = spells-gives Expunge (spells-number ◃ˢ spells-word " EXPUNGE");
  back = reads-counted Expunge " EXPUNGE" " EXPUNGE" (at_end (takes-word " EXPUNGE" " EXPUNGE" refl)) (λ n. refl) (λ t. refl) (λ n. refl);
}

keeps_fetch : KeepsDatum fetch
unfolding fetch fetched
keeps_fetch = keeps-gives fetch_of (keeps-seq keeps-number (keeps-word " FETCH " (keeps-anywhere keeps_attribute_list)) (λ y t g. refl)) (λ x. refl)

-- CAPABILITY and ENABLED are one kind of response, and spelled either way
keeps_capabilities : KeepsDatum (gives Capabilities capability_data)
keeps_capabilities = keeps-gives Capabilities (keeps-wider (keeps-follow keeps_capability_data ends_closes) (λ v c h. inl h)) (λ x. refl)

keeps_enabled : KeepsDatum (gives Capabilities enabled_data)
keeps_enabled = keeps-gives Capabilities (keeps-wider (keeps-follow keeps_enabled_data ends_closes) (λ v c h. inr h)) (λ x. refl)

keeps_with_values : KeepsDatum (gives MailboxData metadata_solicited)
keeps_with_values = keeps-gives MailboxData (keeps-anywhere keeps_solicited) (λ x. refl)

keeps_without_values : KeepsDatum (gives MailboxData metadata_unsolicited)
keeps_without_values = keeps-gives MailboxData (keeps-follow keeps_unsolicited ends_closes) (λ x. refl)

-- ---- what their texts begin with

digit : (b : ℕ) → is_digit b ≡ true → one_of (codes "0123456789CEFLMSX") b ≡ true
digit = digit_one_of (codes "CEFLMSX")

datum_starts : Yields (StartsOneOf "0123456789CEFLMSX" canonical_datum) mailbox_datum
unfolding mailbox_datum flags exists list lsub mailbox_status recent last_rules
datum_starts =
    either_yields (made_yields Flags (λ x t. refl))
    (either_yields (given_yields Exists (left_yields numbers_yield) (λ n small t. number_starts _ digit n small (words " EXISTS") t))
    (either_yields (made_yields Listed (λ x t. refl))
    (either_yields (made_yields Listed (λ x t. refl))
    (either_yields (made_yields status_of (λ x t. refl))
    (either_yields (given_yields Recent (left_yields numbers_yield) (λ n small t. number_starts _ digit n small (words " RECENT") t))
    (either_yields (made_yields Search (λ x t. refl))
    (either_yields (made_yields GmailLabels (λ x t. refl))
    (either_yields (made_yields GmailMsgId (λ x t. refl))
    (either_yields (made_yields GmailThrId (λ x t. refl)) (made_yields Sort (λ x t. refl)))))))))))

mailbox_starts : Yields (StartsOneOf "0123456789CEFLMSX" canonical_data) mailbox
mailbox_starts = given_yields MailboxData datum_starts (λ v h. h)

expunge_starts : Yields (StartsOneOf "0123456789CEFLMSX" canonical_data) expunge
unfolding expunge
expunge_starts = given_yields Expunge (left_yields numbers_yield) (λ n small t. number_starts _ digit n small (words " EXPUNGE") t)

fetch_starts : Yields (StartsOneOf "0123456789CEFLMSX" canonical_data) fetch
unfolding fetch
fetch_starts = given_yields fetch_of (first_yields numbers_yield) (λ v small t. number_starts _ digit v.0 small (words " FETCH " then canonical_attributes v.1) t)

capabilities_start : (ks : String) → one_of (codes ks) 67 ≡ true → Yields (StartsOneOf ks canonical_data) (gives Capabilities capability_data)
capabilities_start ks h = given_yields Capabilities offered_yields (λ cs e t. subst (λ b. BeginsWith (one_of (codes ks)) (written (cond b (words "CAPABILITY") (words "ENABLED") then canonical_each cs) ++ t)) (sym e) h)

enabled_start : (ks : String) → one_of (codes ks) 69 ≡ true → Yields (StartsOneOf ks canonical_data) (gives Capabilities enabled_data)
enabled_start ks h = given_yields Capabilities enabled_yields (λ cs e t. subst (λ b. BeginsWith (one_of (codes ks)) (written (cond b (words "CAPABILITY") (words "ENABLED") then canonical_each cs) ++ t)) (sym e) h)

abbrev annotations_data : Rule ResponseValue
annotations_data = gives MailboxData metadata_solicited or gives MailboxData metadata_unsolicited

annotations_start : (ks : String) → one_of (codes ks) 77 ≡ true → Yields (StartsOneOf ks canonical_data) annotations_data
unfolding metadata_solicited metadata_unsolicited
annotations_start ks h =
    either_yields (given_yields MailboxData (made_yields {P = StartsOneOf ks canonical_datum} solicited_of (λ x t. h)) (λ v h. h))
    (given_yields MailboxData (made_yields {P = StartsOneOf ks canonical_datum} unsolicited_of (λ x t. h)) (λ v h. h))

abbrev named_data : Rule ResponseValue
named_data = gives Capabilities capability_data or gives Capabilities enabled_data or annotations_data

named_start : (ks : String) → one_of (codes ks) 67 ≡ true → one_of (codes ks) 69 ≡ true → one_of (codes ks) 77 ≡ true → Yields (StartsOneOf ks canonical_data) named_data
named_start ks c e m = either_yields (capabilities_start ks c) (either_yields (enabled_start ks e) (annotations_start ks m))

-- ---- a number before another word

no_datum_at_number : (n : ℕ) (t : Bytes) → n < 2 ^ 32 → BeginsWith not_digit t → differs same_letter (codes " EXISTS") t ≡ true → differs same_letter (codes " RECENT") t ≡ true → Denies (meaning mailbox_datum) (decimal n ++ t)
unfolding mailbox_datum flags exists list lsub mailbox_status recent last_rules
no_datum_at_number n t small ends no_exists no_recent =
    denies-alt _ _ _ (denies_one_of flags "0123456789" refl _ at_digit)
    (denies-alt _ _ _ (other_behind Exists " EXISTS" n t small ends no_exists)
    (denies-alt _ _ _ (denies_one_of list "0123456789" refl _ at_digit)
    (denies-alt _ _ _ (denies_one_of lsub "0123456789" refl _ at_digit)
    (denies-alt _ _ _ (denies_one_of mailbox_status "0123456789" refl _ at_digit)
    (denies-alt _ _ _ (other_behind Recent " RECENT" n t small ends no_recent)
    (denies_one_of (search_rule or labels or msgid or thrid or sort) "0123456789" refl _ at_digit))))))
  where
    at_digit : BeginsWith (one_of (codes "0123456789")) (decimal n ++ t)
    at_digit =
        let one = number_first n (omega (arith, small)) in
        subst (λ ds. BeginsWith (one_of (codes "0123456789")) (ds ++ t)) (sym one.2) (digit_one_of [] one.0 one.3)

mailbox_expunge : Apart mailbox expunge canonical_data Ends
unfolding expunge
mailbox_expunge =
    apart-where {P = λ v. (t : Bytes) → Denies (meaning mailbox) (written (canonical_data v) ++ t)}
    (given_yields Expunge (left_yields small_numbers) (λ n small t. subst (λ m. Denies (meaning mailbox) m) (sym (append_assoc (decimal n) (codes " EXPUNGE") t)) (denies-gives _ _ _ (no_datum_at_number n _ small refl refl refl))))
    (λ v t h g. h t)

mailbox_fetch : Apart mailbox fetch canonical_data Ends
unfolding fetch
mailbox_fetch =
    apart-where {P = λ v. (t : Bytes) → Denies (meaning mailbox) (written (canonical_data v) ++ t)}
    (given_yields fetch_of (first_yields small_numbers) (λ v small t. subst (λ m. Denies (meaning mailbox) m) (sym (append_assoc (decimal v.0) (written (words " FETCH " then canonical_attributes v.1)) t)) (denies-gives _ _ _ (no_datum_at_number v.0 _ small refl refl refl))))
    (λ v t h g. h t)

expunge_fetch : Apart expunge fetch canonical_data Ends
unfolding expunge fetch
expunge_fetch =
    apart-where {P = λ v. (t : Bytes) → Denies (meaning expunge) (written (canonical_data v) ++ t)}
    (given_yields fetch_of (first_yields small_numbers) (λ v small t. subst (λ m. Denies (meaning expunge) m) (sym (append_assoc (decimal v.0) (written (words " FETCH " then canonical_attributes v.1)) t)) (other_behind Expunge " EXPUNGE" v.0 _ small refl refl)))
    (λ v t h g. h t)

-- ---- METADATA with values, and without

-- no list in brackets follows
no_values : (names : List Text) (t : Bytes) → Ends t → Denies (meaning annotations) (written (separated space literal_text names) ++ t)
unfolding annotations
no_values [] t e = begun (λ l. Denies (meaning annotations) l) (λ u. search denials depth 10) t e
no_values (name ∷ names) t e = search denials depth 10

solicited_apart : Apart (gives MailboxData metadata_solicited) (gives MailboxData metadata_unsolicited) canonical_data Ends
unfolding meaning metadata_solicited metadata_unsolicited
solicited_apart = record {
  denied = λ m v rest d y f t g.
      let inner = y.1 in
      let parts = inner.1 in
      let names = inner.0.1 in
      let tail = written (separated space literal_text names) ++ t in
      subst (λ w. Denies (meaning (gives MailboxData metadata_solicited)) (written (canonical_data w) ++ t)) y.2
      (subst (λ w. Denies (meaning (gives MailboxData metadata_solicited)) (written (canonical_datum w) ++ t)) inner.2
      (subst (λ l. Denies (meaning (gives MailboxData metadata_solicited)) l) (sym (written_on (canonical_metadata inner.0.0) (separated space literal_text names) t))
      (inr (_, tail, keeps_metadata_mailbox.back.again m inner.0.0 parts.0 parts.1 tt tail tt, no_values names t g))));
}

-- ---- the state of the server and of a mailbox

keeps_named : KeepsDatum named_data
unfolding capability_data enabled_data metadata_mailbox
keeps_named =
    keeps-first keeps_capabilities (apart_first "EM" (either_yields (enabled_start "EM" refl) (annotations_start "EM" refl)) refl)
    (keeps-first keeps_enabled (apart_first "M" (annotations_start "M" refl) refl)
    (keeps-first keeps_with_values solicited_apart keeps_without_values))

keeps_messages : KeepsDatum (mailbox or expunge or fetch or named_data)
unfolding message_rules
keeps_messages =
    keeps-first keeps_mailbox (apart-alt _ _ mailbox_expunge (apart-alt _ _ mailbox_fetch (apart_first "CEM" (named_start "CEM" refl refl refl) refl)))
    (keeps-first keeps_expunge (apart-alt _ _ expunge_fetch (apart_first "CEM" (named_start "CEM" refl refl refl) refl))
    (keeps-first keeps_fetch (apart_first "CEM" (named_start "CEM" refl refl refl) refl) keeps_named))

reads_state : ReadsBackIf NoBracket state_datum lent_response canonical_data Ends
unfolding state_datum status_data status
reads_state =
    alt-if reads_status_data (if-all keeps_messages.back)
    (apart_first "0123456789CEFLMSX" (either_yields mailbox_starts (either_yields expunge_starts (either_yields fetch_starts (named_start "0123456789CEFLMSX" refl refl refl)))) refl)

-- ---- extensions

-- behind `QUOTA` a blank is wanted
quota_apart : Apart (gives Quota quota) (gives QuotaRoot quota_root) canonical_data Ends
unfolding quota
quota_apart = apart-gives _ QuotaRoot
    (λ x t g. denies-gives _ _ _ (denies-gives _ _ _ (denies-behind (word "QUOTA") _ _ (codes "QUOTA") _ (tag-on same_letter (codes "QUOTA") (codes "QUOTA") _ refl) (search denials depth 10))))

keeps_extension : KeepsDatum extension_datum
unfolding extension_rules
keeps_extension =
    keeps-first (keeps-gives vanished_of (keeps-follow keeps_vanished ends_closes) (λ x. refl)) (search apart_forms depth 20)
    (keeps-first (keeps-gives Quota (keeps-anywhere keeps_quota) (λ x. refl)) (apart-alt _ _ quota_apart (search apart_forms depth 20))
    (keeps-first (keeps-gives QuotaRoot (keeps-follow keeps_quota_root ends_closes) (λ x. refl)) (search apart_forms depth 20)
    (keeps-first (keeps-gives Id (keeps-follow keeps_id ends_closes) (λ x. refl)) (search apart_forms depth 20)
    (keeps-first (keeps-gives Acl (keeps-follow keeps_acl ends_closes) (λ x. refl)) (search apart_forms depth 20)
    (keeps-first (keeps-gives ListRights (keeps-follow keeps_list_rights ends_closes) (λ x. refl)) (search apart_forms depth 20)
    (keeps-gives MyRights (keeps-anywhere keeps_my_rights) (λ x. refl)))))))

no_state_at_list_rights : (x : ListRightsValue) (t : Bytes) → Denies (meaning state_datum) (written (canonical_data (ListRights x)) ++ t)
unfolding state_rules
no_state_at_list_rights x t = search denials depth 30

no_state_at_my_rights : (x : MyRightsValue) (t : Bytes) → Denies (meaning state_datum) (written (canonical_data (MyRights x)) ++ t)
unfolding state_rules
no_state_at_my_rights x t = search denials depth 30

state_apart : Apart state_datum extension_datum canonical_data Ends
unfolding extension_rules state_rules
state_apart =
    apart-alt _ _ (apart_first "V" (made_yields vanished_of (λ x t. refl)) refl)
    (apart-alt _ _ (apart_first "Q" (made_yields Quota (λ x t. refl)) refl)
    (apart-alt _ _ (apart_first "Q" (made_yields QuotaRoot (λ x t. refl)) refl)
    (apart-alt _ _ (apart_first "I" (made_yields Id (λ x t. refl)) refl)
    (apart-alt _ _ (apart_first "A" (made_yields Acl (λ x t. refl)) refl)
    (apart-alt _ _ (apart-gives _ ListRights (λ x t g. no_state_at_list_rights x t)) (apart-gives _ MyRights (λ x t g. no_state_at_my_rights x t)))))))

reads_datum : ReadsBackIf NoBracket datum lent_response canonical_data Ends
unfolding datum
reads_datum = alt-if reads_state (if-all keeps_extension.back) state_apart

datum_spells : Spells datum spells_data
unfolding datum state_datum status_data
datum_spells = (spells-gives data_of (keeps_status.spelled ⨾ˢ spaced_spells) orˢ keeps_messages.spelled) orˢ keeps_extension.spelled

-- ---- lines

takes_line_end : Takes (spaces ⨾ crlf) line_end Any
unfolding spaces
takes_line_end = takes-seq (takes-none {F = Begins 13} is_space (begun _ (λ t. refl))) (takes-bytes (13 ∷ 10 ∷ [])) (λ t g. (10 ∷ t, refl))

abbrev data_text : ResponseValue → Pieces
data_text r = words "* " then canonical_data r then line_end

abbrev spells_data_line : ResponseValue → Texts
spells_data_line r = exactly "* " and spells_data r and all_of is_space and ends_line

reads_stars : ReadsBackIf NoBracket data_line lent_response data_text Any
unfolding data_line ended_datum
reads_stars = after-if (takes-text "* ") (before-if reads_datum takes_line_end (λ t g. (10 ∷ t, refl)))

-- neither a continuation nor a tagged line is a datum
abbrev IsDataLine : ResponseValue → Type 0
IsDataLine r = (data_text r ≡ canonical_response r) × ((c : Bytes) → spells_data_line r c → spells_response r c)

is_data_line : (r : ResponseValue) (c : Bytes) → spells_data r c → IsDataLine r
is_data_line (Continue _) c h = absurd h
is_data_line (Done _ _ _) c h = absurd h
is_data_line other c h = (refl, λ b k. k)

data_lines : Yields IsDataLine data_line
unfolding data_line ended_datum
data_lines = right_yields (left_yields (record { each = λ m v rest y. let taken = datum_spells.consumed m v rest y in is_data_line v taken.0 taken.2 }))

reads_data_line : ReadsBackIf NoBracket data_line lent_response canonical_response Any
reads_data_line = record {
  again = λ m v rest y o f t g.
      let same = (data_lines.each m v rest y).0 in
      subst (λ q. (meaning data_line).yields (written q ++ t) (lent_response v) t) same (reads_stars.again m v rest y o (subst Fits (sym same) f) t g);
}

reads_continuation : ReadsBackIf NoBracket continuation lent_response canonical_response Any
unfolding continuation
reads_continuation =
    gives-if Continue
    (after-if (takes-text "+") (after-if (takes-some (takes-text " ")) (before-if reads_outcome (takes-bytes (13 ∷ 10 ∷ [])) (λ t g. (10 ∷ t, refl)))))
    (λ x. refl)

reads_tagged : ReadsBackIf NoBracket tagged lent_response canonical_response Any
unfolding tagged request_tag
reads_tagged =
    gives-if done_of
    (seq-if (reads-test is_utf8 (reads-run1 is_tag_char) (λ v e. e))
    (after-if (takes-text " ") (seq-if keeps_status.back (before-if reads_spaced (takes-bytes (13 ∷ 10 ∷ [])) (λ t g. (10 ∷ t, refl))) (λ y t g. tt)))
    (λ y t g. refl))
    (λ x. refl)

-- ---- a tag begins neither with `+` nor with `*`

abbrev StartsTag : Bytes → Type 0
StartsTag g = (q : Pieces) (t : Bytes) → BeginsWith is_tag_char (written (raw g then q) ++ t)

tag_starts : (g : Bytes) → list_all is_tag_char g ≡ true → 0 < length g → StartsTag g
tag_starts [] all some q t = absurd (omega (arith, some))
tag_starts (b ∷ g) all some q t = (and_parts _ _ all).0

tags_yield : Yields StartsTag request_tag
unfolding request_tag
tags_yield = record {
  each = λ m v rest y.
      let run = run1-has is_tag_char m v rest (test-has is_utf8 (run1 is_tag_char) m v rest y).0 in
      tag_starts v run.1 run.3;
}

abbrev StartsTagged : ResponseValue → Type 0
StartsTagged r = (t : Bytes) → BeginsWith is_tag_char (written (canonical_response r) ++ t)

tagged_starts : Yields StartsTagged tagged
unfolding tagged
tagged_starts = given_yields done_of (first_yields tags_yield) (λ v h t. h (space then canonical_status v.1.0 then canonical_spaced v.1.1 then line_end) t)

no_tag_char : (k : ℕ) (ks m : Bytes) → is_tag_char k ≡ false → BeginsWith is_tag_char m → differs ◌==◌ (k ∷ ks) m ≡ true
no_tag_char k ks [] h s = absurd (false≢true s)
no_tag_char k ks (b ∷ m) h s = or_left (not (k == b)) (differs ◌==◌ ks m) (apart_byte is_tag_char k b h s)

plus_data : Apart continuation data_line canonical_response Any
unfolding continuation
plus_data = apart-where data_lines (λ v t is g. subst (λ q. Denies (meaning continuation) (written q ++ t)) is.0 (search denials depth 10))

plus_tagged : Apart continuation tagged canonical_response Any
unfolding continuation
plus_tagged = apart-where tagged_starts (λ v t start g. denies-gives _ _ _ (denies-after _ _ _ (denies-tag _ _ _ (no_tag_char 43 [] (written (canonical_response v) ++ t) refl (start t)))))

star_tagged : Apart data_line tagged canonical_response Any
unfolding data_line
star_tagged = apart-where tagged_starts (λ v t start g. denies-after _ _ _ (denies-tag _ _ _ (no_tag_char 42 (codes " ") (written (canonical_response v) ++ t) refl (start t))))

reads_response : ReadsBackIf NoBracket response lent_response canonical_response Any
unfolding response
reads_response = alt-if reads_continuation (alt-if reads_data_line reads_tagged star_tagged) (apart-alt _ _ plus_data plus_tagged)

-- ---- literals that are not too long

neither : (a b : Bool) → (a || b) ≡ false → (a ≡ false) × (b ≡ false)
neither true b h = absurd (false≢true (sym h))
neither false b h = (refl, h)

all_fit : (ps : Pieces) → list_any is_too_long ps ≡ false → Fits ps
all_fit [] h = tt
all_fit (Raw b ∷ ps) h = all_fit ps h
all_fit (Lit b ∷ ps) h =
    let parts = neither (not (nat_lt (length b) (2 ^ 32))) (list_any is_too_long ps) h in
    (ltb-true (length b) (2 ^ 32) (not_false _ parts.0), all_fit ps parts.1)
  where
    not_false : (a : Bool) → not a ≡ false → a ≡ true
    not_false true h = refl
    not_false false h = absurd (false≢true (sym h))

pub canonical_reads_back : CanonicalReadsBack
canonical_reads_back m r rest y plain short t = reads_response.again m r rest y plain (all_fit (canonical_response r) short) t tt

-- ---- spelling

spaces_spell : Spells spaces (λ _. all_of is_space)
unfolding spaces
spaces_spell = spells-wider (spells-run0 is_space) (λ v c h. subst (all_of is_space) (sym h.0) h.1)

data_line_spells : Spells data_line spells_response
unfolding data_line ended_datum
data_line_spells = spells-where data_lines (spells-tag "* " ▹ˢ datum_spells ◃ˢ (spaces_spell ⨾ˢ spells-crlf)) (λ v c is h. is.1 c h)

continuation_spells : Spells continuation spells_response
unfolding continuation
continuation_spells = spells-gives Continue (spells-tag "+" ▹ˢ spells-maybe_space ▹ˢ outcome_spells ◃ˢ spells-crlf)

tagged_spells : Spells tagged spells_response
unfolding tagged request_tag
tagged_spells = spells-gives done_of (spells-utf8 is_tag_char ⨾ˢ spells-tag " " ▹ˢ keeps_status.spelled ⨾ˢ spaced_spells ◃ˢ spells-crlf)

pub response_spells : Spells response spells_response
unfolding response
response_spells = continuation_spells orˢ data_line_spells orˢ tagged_spells

-- the same of the code's answer
pub line_spells : {A : Type 0} (view : A → ResponseValue) (m : Bytes) (result : Returned A) → Gives view result (step response m) → IfOk result (λ x. Spelled m x.0.now (view x.1))
line_spells view m (Ok x) g = response_spells.consumed m (view x.1) x.0.now ((agrees response m).yielded (view x.1) x.0.now g)
line_spells view m (Err e) g = tt
