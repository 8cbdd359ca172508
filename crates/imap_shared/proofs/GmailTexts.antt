-- Gmail's items: what their rules take spells them, and their canonical texts read back.
use Rattle.std.proofs.Common.{◌≡◌, Bool, true, false, ◌∷◌, ◌++◌, cond, sym, subst, refl, inl, inr, map}
use Rattle.std.proofs.lemmas.Bool.{both_ways}
use Rattle.imap_grammar.specs.Meaning.{Denies}
use Rattle.imap_grammar.specs.Rule.{meaning}
use Rattle.imap_grammar.specs.Text.{Bytes, Text, as_text, lent_text}
use Rattle.imap_grammar.specs.Pieces.{written, plain, quoted_text, number_text}
use Rattle.imap_grammar.specs.ReadBack.{SpellsAndReadsBack, Any, EndsItem, as_is}
use Rattle.imap_grammar.proofs.Reading.{raw_on, denials, ends_item-in}
use Rattle.imap_grammar.proofs.Spelling.{◌orˢ◌, spells-gives, spells-wider}
use Rattle.imap_grammar.proofs.Keeping.{keeps-word, keeps-follow, keeps-list_of}
use Rattle.imap_grammar.specs.Spelling.{spells_number}
use Rattle.imap_bytes.specs.Strings.{quoted}
use Rattle.imap_bytes.specs.Texts.{quoted_utf8}
use Rattle.imap_bytes.proofs.ReadingTexts.{not_digit}
use Rattle.imap_bytes.proofs.ReadingQuoted.{reads-quoted_utf8}
use Rattle.imap_bytes.proofs.SpellingTexts.{spells-quoted_utf8}
use Rattle.imap_bytes.proofs.Keeping.{keeps-number_64}
use Rattle.imap_bytes.specs.Numbers.{number_64}
use Rattle.imap_shared.specs.Flags.{flag, backslashed_text, backslashed, keyword}
use Rattle.imap_shared.specs.FlagTexts.{is_flag}
use Rattle.imap_shared.specs.Gmail.{gmail_label, gmail_labels, gmail_label_list, gmail_msgid, gmail_thrid}
use Rattle.imap_shared.specs.GmailTexts.{canonical_label, canonical_label_list, canonical_msgid, canonical_thrid, spells_label, spells_label_list, spells_msgid, spells_thrid}
use Rattle.imap_shared.proofs.FlagTexts.{flag-is, flag_on, flag_spells}

-- no flag begins with a quote
no_flag : (t : Bytes) → Denies (meaning flag) (34 ∷ t)
unfolding flag backslashed_text backslashed keyword
no_flag t = search denials depth 20

label_on : (m : Bytes) (v : Text) (rest : Bytes) → (meaning gmail_label).yields m v rest → (t : Bytes) → EndsItem t → (b : Bool) → is_flag v.bytes ≡ b
    → (meaning gmail_label).yields (written (cond b (plain v) (quoted_text v)) ++ t) (lent_text v) t
unfolding meaning gmail_label
label_on m v rest y t g true is = inl (v.bytes, subst (λ l. (meaning flag).yields l v.bytes t) (sym (raw_on v.bytes t)) (flag_on v.bytes t is g), refl)
label_on m v rest (inl y) t g false is = absurd (both_ways (is_flag v.bytes) is (subst (λ (u : Text). is_flag u.bytes ≡ true) y.2 (flag-is m y.0 rest y.1)))
label_on m v rest (inr y) t g false is = inr (no_flag _, reads-quoted_utf8.again m v rest y.1 tt t tt)

keeps_label : SpellsAndReadsBack gmail_label lent_text canonical_label spells_label EndsItem
unfolding gmail_label
keeps_label = record {
  spelled = spells-gives as_text (spells-wider flag_spells (λ v c h. inl h)) orˢ spells-wider spells-quoted_utf8 (λ v c h. inr h);
  back = record { again = λ m v rest y f t g. label_on m v rest y t g (is_flag v.bytes) refl };
}

pub keeps_label_list : SpellsAndReadsBack gmail_label_list (map lent_text) canonical_label_list spells_label_list Any
unfolding gmail_label_list gmail_labels gmail_label flag backslashed_text backslashed keyword quoted_utf8 quoted
keeps_label_list = keeps-word "X-GM-LABELS " (keeps-list_of keeps_label (λ t. refl) (λ t. refl) (λ t. search denials depth 20))

-- a number before the end of an item
keeps_number : SpellsAndReadsBack number_64 as_is number_text spells_number EndsItem
keeps_number = keeps-follow keeps-number_64 (ends_item-in not_digit refl refl refl)

pub keeps_msgid : SpellsAndReadsBack gmail_msgid as_is canonical_msgid spells_msgid EndsItem
unfolding gmail_msgid
keeps_msgid = keeps-word "X-GM-MSGID " keeps_number

pub keeps_thrid : SpellsAndReadsBack gmail_thrid as_is canonical_thrid spells_thrid EndsItem
unfolding gmail_thrid
keeps_thrid = keeps-word "X-GM-THRID " keeps_number
