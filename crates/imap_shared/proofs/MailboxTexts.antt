-- Mailbox names read back.
use Rattle.std.proofs.Common.{◌≡◌, Bool, true, false, ◌++◌, sym, ◌∙◌, ap, subst, refl, inl, inr, ◌⊎◌, codes, append-nil}
use Rattle.std.proofs.lemmas.Bool.{cases_Bool, cond-true, cond-false}
use lib.Utf8.{encode}
use Rattle.imap_grammar.specs.Meaning.{is_word}
use Rattle.imap_grammar.specs.Rule.{meaning}
use Rattle.imap_grammar.specs.Text.{Bytes, Text, decoded, as_text, lent_text}
use Rattle.imap_grammar.specs.Tags.{same_letter}
use Rattle.imap_grammar.specs.Pieces.{literal_of}
use Rattle.imap_grammar.specs.ReadBack.{ReadsBack, Spells, SpellsAndReadsBack, Any}
use Rattle.imap_grammar.specs.Spelling.{spells_astring_text}
use Rattle.imap_grammar.proofs.Spelling.{spells-gives, spells-wider}
use Rattle.imap_bytes.specs.Strings.{astring}
use Rattle.imap_bytes.specs.Texts.{astring_utf8}
use Rattle.imap_bytes.proofs.ReadingTexts.{astring_on, decoded_utf8, decoded_twice}
use Rattle.imap_bytes.proofs.SpellingTexts.{spells-astring_utf8}
use Rattle.imap_shared.specs.Mailboxes.{mailbox_of, mailbox}
use Rattle.imap_shared.specs.MailboxTexts.{canonical_mailbox, spells_mailbox}

abbrev is_inbox : Bytes → Bool
is_inbox bytes = is_word same_letter (codes "INBOX") bytes

-- INBOX once is INBOX always
mailbox-is : (t : Text) → ((mailbox_of t ≡ as_text (codes "INBOX")) × (is_inbox t.bytes ≡ true)) ⊎ ((mailbox_of t ≡ t) × (is_inbox t.bytes ≡ false))
mailbox-is t = elim (cases_Bool (is_inbox t.bytes)) [ inl e ↦ inl (cond-true _ _ _ e, e) | inr e ↦ inr (cond-false _ _ _ e, e) ]

-- borrowing and INBOX go either way round
mailbox_lent : (t : Text) → mailbox_of (lent_text t) ≡ lent_text (mailbox_of t)
mailbox_lent t = elim (mailbox-is t) [
  | inl e ↦ cond-true _ _ _ e.1 ∙ sym (ap lent_text e.0)
  | inr e ↦ cond-false _ _ _ e.1 ∙ sym (ap lent_text e.0)
]

mailbox_twice : (t : Text) → mailbox_of (mailbox_of t) ≡ mailbox_of t
mailbox_twice t = elim (mailbox-is t) [ inl e ↦ ap mailbox_of e.0 ∙ sym e.0 | inr e ↦ ap mailbox_of e.0 ]

mailbox_decoded : (b : Bytes) (t : Text) → decoded b ≡ t → decoded (mailbox_of t).bytes ≡ lent_text (mailbox_of t)
unfolding encode
mailbox_decoded b t h = elim (mailbox-is t) [
  | inl e ↦ subst (λ u. decoded u.bytes ≡ lent_text u) (sym e.0) (decoded_utf8 (codes "INBOX") (codes "INBOX", (refl, refl)))
  | inr e ↦ subst (λ u. decoded u.bytes ≡ lent_text u) (sym e.0) (decoded_twice b t h)
]

reads_mailbox : ReadsBack mailbox lent_text canonical_mailbox Any
unfolding meaning mailbox astring_utf8
reads_mailbox = record {
  again = λ m v rest y f t g. (
    lent_text v,
    (
      v.bytes,
      subst (λ l. (meaning astring).yields (l ++ t) v.bytes t) (sym (append-nil (literal_of v.bytes))) (astring_on v.bytes t f.0),
      subst (λ u. decoded u.bytes ≡ lent_text u) y.2 (mailbox_decoded y.1.0 y.0 y.1.2),
    ),
    mailbox_lent v ∙ ap lent_text (subst (λ u. mailbox_of u ≡ u) y.2 (mailbox_twice y.0)),
  );
}

inbox_spells : (t : Text) (c : Bytes) → spells_astring_text t c → spells_mailbox (mailbox_of t) c
inbox_spells t c h = elim (mailbox-is t) [
  | inl e ↦ inl (ap (λ (u : Text). u.bytes) e.0, (t, e.1, h))
  | inr e ↦ inr (subst (λ u. (is_inbox u.bytes ≡ false) × spells_astring_text u c) (sym e.0) (e.1, h))
]

mailbox_spells : Spells mailbox spells_mailbox
unfolding mailbox
mailbox_spells = spells-gives mailbox_of (spells-wider spells-astring_utf8 inbox_spells)

pub keeps_mailbox : SpellsAndReadsBack mailbox lent_text canonical_mailbox spells_mailbox Any
keeps_mailbox = record { spelled = mailbox_spells; back = reads_mailbox }
