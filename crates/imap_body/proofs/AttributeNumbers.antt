-- Attributes that hold a number are read with each number that fits.
use Rattle.std.proofs.Common.{◌≡◌, ℕ, ◌<◌, ◌≤◌, ◌^◌, ◌==◌, Bool, true, ◌++◌, sym, subst, refl, ◌∙◌, inl, inr, codes, arith}
use Rattle.imap_grammar.specs.Meaning.{Denies, is_word}
use Rattle.imap_grammar.specs.Rule.{Rule, meaning, tag_by, gives, ◌▹◌, ◌◃◌, ◌or◌}
use Rattle.imap_grammar.specs.Step.{step}
use Rattle.imap_grammar.specs.Tags.{same_letter, tag}
use Rattle.imap_grammar.specs.Text.{Bytes}
use Rattle.imap_grammar.specs.Pieces.{Pieces, written, raw, words, number_text, ◌then◌}
use Rattle.imap_grammar.specs.ReadBack.{BeginsWith, EndsItem}
use Rattle.imap_grammar.proofs.Agreement.{agrees}
use Rattle.imap_grammar.proofs.Reading.{raw_on, written_on, after-on, before-on, tag-on, denies-gives, denies-after, denies-tag, ends_item-in}
use Rattle.imap_bytes.specs.Numbers.{number_below, number, number_64}
use Rattle.imap_bytes.proofs.ReadingTexts.{not_digit, number_on}
use Rattle.imap_shared.specs.Gmail.{gmail_label_list, gmail_msgid, gmail_thrid}
use Rattle.imap_body.specs.AttributeValues.{AttributeValue, ModSeq, Rfc822Size, Uid, GmailMsgId, GmailThrId}
use Rattle.imap_body.specs.Attributes.{msg_att_mod_seq, msg_att_rfc822, msg_att_rfc822_header, msg_att_rfc822_size, msg_att_rfc822_text, msg_att_uid, msg_att_gmail_labels, msg_att_gmail_msgid, msg_att_gmail_thrid, msg_att_unknown, attribute, attribute_of_m, attribute_of_u, attribute_of_x}
use Rattle.imap_body.specs.AttributeTexts.{ReadsEachBelow}
use Rattle.imap_body.proofs.AttributeFirstBytes.{of_message, attribute_in_arm, arm_m, arm_u, arm_x}

-- ---- a word and a number

-- the number alone
number_alone : (bound n : ℕ) → bound ≤ 2 ^ 64 → n < bound → (t : Bytes) → BeginsWith not_digit t → (meaning (number_below bound)).yields (written (number_text n) ++ t) n t
number_alone bound n fits below t ends = subst (λ l. (meaning (number_below bound)).yields l n t) (sym (raw_on _ t)) (number_on bound n fits below t ends)

-- what stands behind a word
behind_word : {A : Type 0} (same : ℕ → ℕ → Bool) (k : Bytes) (a : Rule A) (q : Pieces) (v : A) (t : Bytes) → is_word same k k ≡ true → (meaning a).yields (written q ++ t) v t → (meaning (tag_by same k ▹ a)).yields (written (raw k then q) ++ t) v t
behind_word same k a q v t is y =
    subst (λ l. (meaning (tag_by same k ▹ a)).yields l v t) (sym (written_on (raw k) q t ∙ raw_on k (written q ++ t)))
    (after-on (tag_by same k) a _ k (written q ++ t) v t (tag-on same k k _ is) y)

made_on : {A B : Type 0} (f : A → B) (a : Rule A) (m : Bytes) (x : A) (t : Bytes) → (meaning a).yields m x t → (meaning (gives f a)).yields m (f x) t
unfolding meaning
made_on f a m x t y = (x, y, refl)

-- a value made of the number behind a word
word_number : (k : Bytes) (bound : ℕ) (value : ℕ → AttributeValue) → is_word same_letter k k ≡ true → bound ≤ 2 ^ 64 → (n : ℕ) (t : Bytes) → n < bound → EndsItem t → (meaning (tag_by same_letter k ▹ gives value (number_below bound))).yields (written (raw k then number_text n) ++ t) (value n) t
word_number k bound value is fits n t below ends =
    behind_word same_letter k (gives value (number_below bound)) (number_text n) (value n) t is
    (made_on value (number_below bound) _ n t (number_alone bound n fits below t (ends_item-in not_digit refl refl refl t ends)))

-- ---- choices

read_first : {A : Type 0} (a b : Rule A) (m : Bytes) (v : A) (t : Bytes) → (meaning a).yields m v t → (meaning (a or b)).yields m v t
unfolding meaning
read_first a b m v t y = inl y

read_next : {A : Type 0} (a b : Rule A) (m : Bytes) (v : A) (t : Bytes) → Denies (meaning a) m → (meaning b).yields m v t → (meaning (a or b)).yields m v t
unfolding meaning
read_next a b m v t d y = inr (d, y)

-- what a rule with the same step yields
same_step : (s : Rule AttributeValue) (m : Bytes) (v : AttributeValue) (t : Bytes) → step attribute m ≡ step s m → (meaning s).yields m v t → (meaning attribute).yields m v t
same_step s m v t same y = (agrees attribute m).yielded v t (same ∙ (agrees s m).yields v t y)

-- ---- each attribute

pub reads_sizes : ReadsEachBelow (2 ^ 32) Rfc822Size
unfolding msg_att_rfc822 msg_att_rfc822_header msg_att_rfc822_size number
reads_sizes n t below ends =
    same_step (msg_att_rfc822 or msg_att_rfc822_header or msg_att_rfc822_size or msg_att_rfc822_text or msg_att_unknown) _ (Rfc822Size n) t (of_message _ (inr refl))
    (read_next msg_att_rfc822 _ _ _ t (denies-after _ _ _ (denies-tag _ _ _ refl))
    (read_next msg_att_rfc822_header _ _ _ t (denies-after _ _ _ (denies-tag _ _ _ refl))
    (read_first msg_att_rfc822_size _ _ _ t (word_number (codes "RFC822.SIZE ") (2 ^ 32) Rfc822Size refl (omega arith) n t below ends))))

pub reads_uids : ReadsEachBelow (2 ^ 32) Uid
unfolding msg_att_uid attribute_of_u number
reads_uids n t below ends = same_step attribute_of_u _ (Uid n) t (attribute_in_arm _ _ arm_u _ (inr refl)) (read_first msg_att_uid _ _ _ t (word_number (codes "UID ") (2 ^ 32) Uid refl (omega arith) n t below ends))

pub reads_mod_seqs : ReadsEachBelow (2 ^ 64) ModSeq
unfolding msg_att_mod_seq attribute_of_m number_64
reads_mod_seqs n t below ends =
    let closed : (meaning (number_64 ◃ tag ")")).yields (written (number_text n then words ")") ++ t) n t =
    subst (λ l. (meaning (number_64 ◃ tag ")")).yields l n t) (sym (written_on (number_text n) (words ")") t))
    (before-on number_64 (tag ")") _ n (codes ")" ++ t) (codes ")") t (number_alone (2 ^ 64) n (omega arith) below (codes ")" ++ t) refl) (tag-on ◌==◌ (codes ")") (codes ")") t refl)) in
    let opened = behind_word ◌==◌ (codes "(") (number_64 ◃ tag ")") (number_text n then words ")") n t refl closed in
    same_step attribute_of_m _ (ModSeq n) t (attribute_in_arm _ _ arm_m _ (inr refl))
    (read_first msg_att_mod_seq _ _ _ t
    (behind_word same_letter (codes "MODSEQ ") (gives ModSeq (tag "(" ▹ number_64 ◃ tag ")")) (words "(" then number_text n then words ")") (ModSeq n) t refl (made_on ModSeq (tag "(" ▹ number_64 ◃ tag ")") _ n t opened)))

-- a number behind a word of Gmail's
gmail_number : (k : Bytes) → is_word same_letter k k ≡ true → (n : ℕ) (t : Bytes) → n < 2 ^ 64 → EndsItem t → (meaning (tag_by same_letter k ▹ number_below (2 ^ 64))).yields (written (raw k then number_text n) ++ t) n t
gmail_number k is n t below ends = behind_word same_letter k (number_below (2 ^ 64)) (number_text n) n t is (number_alone (2 ^ 64) n (omega arith) below t (ends_item-in not_digit refl refl refl t ends))

pub reads_msgids : ReadsEachBelow (2 ^ 64) GmailMsgId
unfolding msg_att_gmail_labels gmail_label_list msg_att_gmail_msgid gmail_msgid attribute_of_x number_64
reads_msgids n t below ends =
    same_step attribute_of_x _ (GmailMsgId n) t (attribute_in_arm _ _ arm_x _ (inr refl))
    (read_next msg_att_gmail_labels _ _ _ t (denies-gives _ _ _ (denies-after _ _ _ (denies-tag _ _ _ refl)))
    (read_first msg_att_gmail_msgid _ _ _ t (made_on GmailMsgId gmail_msgid _ n t (gmail_number (codes "X-GM-MSGID ") refl n t below ends))))

pub reads_thrids : ReadsEachBelow (2 ^ 64) GmailThrId
unfolding msg_att_gmail_labels gmail_label_list msg_att_gmail_msgid gmail_msgid msg_att_gmail_thrid gmail_thrid attribute_of_x number_64
reads_thrids n t below ends =
    same_step attribute_of_x _ (GmailThrId n) t (attribute_in_arm _ _ arm_x _ (inr refl))
    (read_next msg_att_gmail_labels _ _ _ t (denies-gives _ _ _ (denies-after _ _ _ (denies-tag _ _ _ refl)))
    (read_next msg_att_gmail_msgid _ _ _ t (denies-gives _ _ _ (denies-after _ _ _ (denies-tag _ _ _ refl)))
    (read_first msg_att_gmail_thrid _ _ _ t (made_on GmailThrId gmail_thrid _ n t (gmail_number (codes "X-GM-THRID ") refl n t below ends)))))
