-- A mailbox's data: what their rules take spells them, and their canonical texts read back.
use Rattle.std.proofs.Common.{◌≡◌, ℕ, ◌∷◌, ◌++◌, true, refl, sym, subst, inl, inr, codes}
use Rattle.std.proofs.lemmas.List.{map-id}
use Rattle.imap_grammar.specs.Classes.{is_digit}
use Rattle.imap_grammar.specs.Meaning.{Denies}
use Rattle.imap_grammar.specs.Rule.{Rule, meaning, gives, ◌▹◌, ◌or◌}
use Rattle.imap_grammar.specs.Text.{Bytes}
use Rattle.imap_grammar.specs.Tags.{word, sp, same_letter}
use Rattle.imap_grammar.specs.Pieces.{written}
use Rattle.imap_grammar.specs.ReadBack.{ReadsBack, Takes, Spells, SpellsAndReadsBack, Apart, Any, BeginsWith, Closes, EndsItem, ends_item, as_is}
use Rattle.imap_grammar.specs.Pieces.{Pieces, Fits, list_text}
use Rattle.imap_grammar.proofs.Reading.{first_instead, reads-as, reads-before_absent, apart_forms, denials, denies-gives, denies-after, denies-tag, gives-has, gives-on, after-has, after-on, tag-on, closes-in}
use Rattle.imap_grammar.proofs.ReadingLists.{takes-word}
use Rattle.imap_grammar.proofs.Spelling.{◌▹ˢ◌, ◌◃ˢ◌, ◌orˢ◌, spells-gives, spells-wider, spells-word, spells-tag, spells-many, spells-maybe_space}
use Rattle.imap_grammar.proofs.Keeping.{keeps-word, keeps-tag, ◌⨾ᵏ◌, keeps-gives, keeps-follow, keeps-anywhere, keeps-wider, keeps-first, keeps-list_of}
use Rattle.imap_grammar.specs.Spelling.{spells_list}
use Rattle.imap_bytes.proofs.ReadingTexts.{not_digit}
use Rattle.imap_bytes.proofs.ReadingCounts.{word_no_number, reads-counted, counted_apart, counted_other, closes_space, reads-spaced_numbers}
use Rattle.imap_bytes.proofs.SpellingTexts.{spells-number}
use Rattle.imap_bytes.proofs.Keeping.{keeps-number, keeps-number_64}
use Rattle.imap_shared.proofs.GmailTexts.{keeps_label_list, keeps_msgid, keeps_thrid}
use Rattle.imap_shared.proofs.FlagTexts.{keeps_flag_list}
use Rattle.imap_shared.proofs.MailboxTexts.{keeps_mailbox}
use Rattle.imap_data.specs.declared.types.counts.StatusAttribute.TheVariants.{HighestModSeq, Messages, Recent as RecentItem, UidNext, UidValidity, Unseen}
use Rattle.imap_data.specs.Counts.{status_item, status_items, found_number, found_numbers}
use Rattle.imap_data.specs.Names.{ListValue, lent_list, list_data}
use Rattle.imap_data.specs.NameTexts.{canonical_list}
use Rattle.imap_data.specs.DatumValues.{DatumValue, Exists, Flags, Listed, Search, Sort, Recent, GmailLabels, GmailMsgId, GmailThrId, lent_datum}
use Rattle.imap_data.specs.MailboxData.{flags, exists, list, lsub, list_or_lsub, status_of, status, recent, search as search_rule, labels, msgid, thrid, sort, mailbox_datum}
use Rattle.imap_data.proofs.Rules.{item_rules, datum_rules}
use Rattle.imap_data.specs.MailboxDataTexts.{canonical_item, canonical_numbers, canonical_datum, spells_item, spells_numbers, spells_datum}
use Rattle.imap_data.proofs.NameTexts.{keeps_list_data}

-- ---- items of STATUS

keeps_item : SpellsAndReadsBack status_item as_is canonical_item spells_item (BeginsWith not_digit)
unfolding item_rules
keeps_item =
    keeps-first (keeps-gives HighestModSeq (keeps-word "HIGHESTMODSEQ " keeps-number_64) (λ x. refl)) (search apart_forms depth 20)
    (keeps-first (keeps-gives Messages (keeps-word "MESSAGES " keeps-number) (λ x. refl)) (search apart_forms depth 20)
    (keeps-first (keeps-gives RecentItem (keeps-word "RECENT " keeps-number) (λ x. refl)) (search apart_forms depth 20)
    (keeps-first (keeps-gives UidNext (keeps-word "UIDNEXT " keeps-number) (λ x. refl)) (search apart_forms depth 20)
    (keeps-first (keeps-gives UidValidity (keeps-word "UIDVALIDITY " keeps-number) (λ x. refl)) (search apart_forms depth 20)
    (keeps-gives Unseen (keeps-word "UNSEEN " keeps-number) (λ x. refl))))))

keeps_items : SpellsAndReadsBack status_items as_is (list_text canonical_item) (spells_list spells_item) Any
unfolding status_items item_rules
keeps_items =
    let items = keeps-list_of keeps_item (λ t. refl) (λ t. refl) (λ t. search denials depth 30) in
    record { spelled = items.spelled; back = reads-as items.back map-id }

keeps_numbers : SpellsAndReadsBack found_numbers as_is canonical_numbers spells_numbers Closes
unfolding found_numbers found_number
keeps_numbers = record {
  spelled = spells-many (spells-tag " " ▹ˢ spells-number) ◃ˢ spells-maybe_space;
  back = reads-before_absent sp reads-spaced_numbers (λ t g. g) closes_space;
}

-- `)` and CR end an item
closes_item : (t : Bytes) → Closes t → EndsItem t
closes_item = closes-in ends_item refl refl

-- ---- each alternative

-- what it takes spells the datum, whose canonical text reads back
abbrev KeepsDatum : Rule DatumValue → Type 0
KeepsDatum a = SpellsAndReadsBack a lent_datum canonical_datum spells_datum Closes

keeps_flags : KeepsDatum flags
unfolding flags
keeps_flags = keeps-gives Flags (keeps-word "FLAGS " (keeps-anywhere keeps_flag_list)) (λ x. refl)

closing : {A : Type 0} {a : Rule A} {p : Pieces} → Takes a p Any → Takes a p Closes
closing h = record { taken = λ f t g. h.taken f t tt }

keeps_exists : KeepsDatum exists
unfolding exists
keeps_exists = record {
  spelled = spells-gives Exists (spells-number ◃ˢ spells-word " EXISTS");
  back = reads-counted Exists " EXISTS" " EXISTS" (closing (takes-word " EXISTS" " EXISTS" refl)) (λ n. refl) (λ t. refl) (λ n. refl);
}

keeps_recent : KeepsDatum recent
unfolding recent
keeps_recent = record {
  spelled = spells-gives Recent (spells-number ◃ˢ spells-word " RECENT");
  back = reads-counted Recent " RECENT" " RECENT" (closing (takes-word " RECENT" " RECENT" refl)) (λ n. refl) (λ t. refl) (λ n. refl);
}

keeps_list : KeepsDatum list
unfolding list
keeps_list = keeps-gives Listed (keeps-wider (keeps-word "LIST " (keeps-anywhere keeps_list_data)) (λ v c h. inl h)) (λ x. refl)

lsub_spells : Spells lsub spells_datum
unfolding lsub
lsub_spells = spells-gives Listed (spells-wider (spells-word "LSUB " ▹ˢ keeps_list_data.spelled) (λ v c h. inr h))

keeps_status : KeepsDatum status
unfolding status
keeps_status = keeps-gives status_of (keeps-word "STATUS " (keeps_mailbox ⨾ᵏ keeps-tag " " (keeps-anywhere keeps_items))) (λ x. refl)

keeps_search : KeepsDatum search_rule
unfolding search_rule
keeps_search = keeps-gives Search (keeps-word "SEARCH" keeps_numbers) (λ x. refl)

keeps_sort : KeepsDatum sort
unfolding sort
keeps_sort = keeps-gives Sort (keeps-word "SORT" keeps_numbers) (λ x. refl)

keeps_labels : KeepsDatum labels
unfolding labels
keeps_labels = keeps-gives GmailLabels (keeps-anywhere keeps_label_list) (λ x. refl)

keeps_gmail_msgid : KeepsDatum msgid
unfolding msgid
keeps_gmail_msgid = keeps-gives GmailMsgId (keeps-follow keeps_msgid closes_item) (λ x. refl)

keeps_gmail_thrid : KeepsDatum thrid
unfolding thrid
keeps_gmail_thrid = keeps-gives GmailThrId (keeps-follow keeps_thrid closes_item) (λ x. refl)

-- LSUB's data as LIST's
lsub_as_list : (m : Bytes) (v : DatumValue) (rest : Bytes) → (meaning lsub).yields m v rest → Fits (canonical_datum v) → (t : Bytes) → Closes t → (meaning list).yields (written (canonical_datum v) ++ t) (lent_datum v) t
unfolding lsub list
lsub_as_list m v rest y fits t g =
    let has = gives-has Listed (word "LSUB " ▹ list_data) m v rest y in
    let inner = after-has (word "LSUB ") list_data m has.0 rest has.1 in
    subst (λ w. (meaning (gives Listed (word "LIST " ▹ list_data))).yields (written (canonical_datum w) ++ t) (lent_datum w) t) has.2 (told has.0 inner.0 inner.1 (subst (λ w. Fits (canonical_datum w)) (sym has.2) fits))
  where
    told : (l : ListValue) (mid : Bytes) → (meaning list_data).yields mid l rest → Fits (canonical_list l)
        → (meaning (gives Listed (word "LIST " ▹ list_data))).yields (written (canonical_datum (Listed l)) ++ t) (Listed (lent_list l)) t
    told l mid z f = gives-on Listed (word "LIST " ▹ list_data) _ (lent_list l) t
        (after-on (word "LIST ") list_data _ (codes "LIST ") (written (canonical_list l) ++ t) (lent_list l) t (tag-on same_letter (codes "LIST ") (codes "LIST ") _ refl) (keeps_list_data.back.again mid l rest z f t tt))

-- ---- none of a word begins with a digit

flags_digit : (b : ℕ) (t : Bytes) → is_digit b ≡ true → Denies (meaning flags) (b ∷ t)
unfolding flags
flags_digit b t d = denies-gives _ _ _ (denies-after _ _ _ (denies-tag _ _ _ (word_no_number 70 (codes "LAGS ") refl b t d)))

list_digit : (b : ℕ) (t : Bytes) → is_digit b ≡ true → Denies (meaning list) (b ∷ t)
unfolding list
list_digit b t d = denies-gives _ _ _ (denies-after _ _ _ (denies-tag _ _ _ (word_no_number 76 (codes "IST ") refl b t d)))

lsub_digit : (b : ℕ) (t : Bytes) → is_digit b ≡ true → Denies (meaning lsub) (b ∷ t)
unfolding lsub
lsub_digit b t d = denies-gives _ _ _ (denies-after _ _ _ (denies-tag _ _ _ (word_no_number 76 (codes "SUB ") refl b t d)))

status_digit : (b : ℕ) (t : Bytes) → is_digit b ≡ true → Denies (meaning status) (b ∷ t)
unfolding status
status_digit b t d = denies-gives _ _ _ (denies-after _ _ _ (denies-tag _ _ _ (word_no_number 83 (codes "TATUS ") refl b t d)))

flags_exists : Apart flags exists canonical_datum Closes
unfolding exists
flags_exists = counted_apart flags Exists " EXISTS" " EXISTS" (λ n. refl) flags_digit

flags_recent : Apart flags recent canonical_datum Closes
unfolding recent
flags_recent = counted_apart flags Recent " RECENT" " RECENT" (λ n. refl) flags_digit

list_recent : Apart list recent canonical_datum Closes
unfolding recent
list_recent = counted_apart list Recent " RECENT" " RECENT" (λ n. refl) list_digit

lsub_recent : Apart lsub recent canonical_datum Closes
unfolding recent
lsub_recent = counted_apart lsub Recent " RECENT" " RECENT" (λ n. refl) lsub_digit

status_recent : Apart status recent canonical_datum Closes
unfolding recent
status_recent = counted_apart status Recent " RECENT" " RECENT" (λ n. refl) status_digit

exists_recent : Apart exists recent canonical_datum Closes
unfolding exists recent
exists_recent = counted_other Exists Recent " EXISTS" " RECENT" " RECENT" (λ n. refl) (λ t. refl) (λ t. refl)

ruleset datum_forms = (flags_exists, flags_recent, list_recent, lsub_recent, status_recent, exists_recent, apart_forms)

-- ---- the choice

keeps_last : KeepsDatum (recent or search_rule or labels or msgid or thrid or sort)
unfolding datum_rules
keeps_last =
    keeps-first keeps_recent (search datum_forms depth 30)
    (keeps-first keeps_search (search datum_forms depth 30)
    (keeps-first keeps_labels (search datum_forms depth 30)
    (keeps-first keeps_gmail_msgid (search datum_forms depth 30)
    (keeps-first keeps_gmail_thrid (search datum_forms depth 30) keeps_sort))))

keeps_lists : KeepsDatum (list or lsub or status or recent or search_rule or labels or msgid or thrid or sort)
unfolding datum_rules
keeps_lists =
    let others = keeps-first keeps_status (search datum_forms depth 30) keeps_last in
    record {
      spelled = keeps_list.spelled orˢ lsub_spells orˢ others.spelled;
      back = first_instead keeps_list.back lsub_as_list (search datum_forms depth 30) (search datum_forms depth 30) others.back;
    }

reads_list_or_lsub : ReadsBack list_or_lsub lent_datum canonical_datum Closes
unfolding list_or_lsub meaning
reads_list_or_lsub = record {
  again = λ m v rest y f t g.
      elim y [
        | inl here ↦ inl (keeps_list.back.again m v rest here f t g)
        | inr later ↦ inl (lsub_as_list m v rest later.1 f t g)
      ];
}

pub keeps_list_or_lsub : KeepsDatum list_or_lsub
unfolding list_or_lsub
keeps_list_or_lsub = record { spelled = keeps_list.spelled orˢ lsub_spells; back = reads_list_or_lsub }

pub keeps_mailbox_datum : KeepsDatum mailbox_datum
unfolding datum_rules
keeps_mailbox_datum = keeps-first keeps_flags (search datum_forms depth 30) (keeps-first keeps_exists (search datum_forms depth 30) keeps_lists)
