-- Access control lists: what their rules take spells them, and their canonical texts read back.
use Rattle.std.proofs.Common.{◌≡◌, ℕ, ◌==◌, true, List, [], ◌∷◌, ◌++◌, refl, sym, subst, inl, inr, ◌⊎◌, map}
use Rattle.std.proofs.lemmas.Bool.{false≢true, or_cases, eqb-true}
use Rattle.imap_grammar.specs.Classes.{is_blank}
use Rattle.imap_grammar.specs.Meaning.{Denies, outside}
use Rattle.imap_grammar.specs.Rule.{Rule, meaning, list0, ◌▹◌}
use Rattle.imap_grammar.specs.Text.{Bytes}
use Rattle.imap_grammar.specs.Tags.{blanks0, blanks1}
use Rattle.imap_grammar.specs.Pieces.{Pieces, written, Fits, space, separated, each, ◌then◌}
use Rattle.imap_grammar.specs.ReadBack.{ReadsBack, SpellsAndReadsBack, Any, BeginsWith, Closes, closes}
use Rattle.imap_grammar.proofs.Reading.{written_on, reads-list0, denials, denies-gives, denies-seq, closes-in, after-has, after-on}
use Rattle.imap_grammar.proofs.ReadingLists.{takes-blanks}
use Rattle.imap_grammar.proofs.Spelling.{◌▹ˢ◌, spells-blanks0, spells-blanks1, spells-list0}
use Rattle.imap_grammar.proofs.Keeping.{keeps-word, keeps-blanks, ◌⨾ᵏ◌, keeps-gives}
use Rattle.imap_grammar.specs.Spelling.{with_between, some_blanks, blanks, ◌and◌}
use Rattle.imap_bytes.specs.Strings.{astring, string, quoted, literal, literal_header}
use Rattle.imap_bytes.specs.Texts.{astring_utf8}
use Rattle.imap_bytes.proofs.ReadingCounts.{closes_blanks}
use Rattle.imap_bytes.proofs.Keeping.{keeps-astring_utf8}
use Rattle.imap_shared.proofs.RightTexts.{keeps_rights}
use Rattle.imap_shared.proofs.MailboxTexts.{keeps_mailbox}
use Rattle.imap_extensions.specs.Acls.{lent_acl_entry, lent_acl, lent_my_rights, acl_entry_of, acl_entry, acl_entries, acl_of, acl, my_rights_of, my_rights}
use Rattle.imap_extensions.specs.AclTexts.{canonical_acl_entry, canonical_acl, canonical_my_rights, spells_acl_entry, spells_acl, spells_my_rights}

-- ---- lists behind blanks

module _ {A : Type 0} {a : Rule A} {l : A → A} {c : A → Pieces} where
  -- none, or each behind a space
  reads_spaced_list : ReadsBack a l c Any → ((y : A) (t : Bytes) → BeginsWith (outside is_blank) (written (c y) ++ t)) → ((t : Bytes) → Closes t → Denies (meaning a) t)
      → ReadsBack (blanks0 ▹ list0 blanks1 a) (map l) (each (λ y. space then c y)) Closes
  unfolding meaning
  reads_spaced_list h begin none = record {
    again = λ m v rest y f t g.
        let inner = after-has blanks0 (list0 blanks1 a) m v rest y in
        behind_blanks v inner.0 rest inner.1 f t g;
  }
    where
      listed : ReadsBack (list0 blanks1 a) (map l) (separated space c) Closes
      listed = reads-list0 {G = Closes} takes-blanks h begin (λ t. tt) (λ t g. tt) closes_blanks none

      behind_blanks : (v : List A) (mid rest : Bytes) → (meaning (list0 blanks1 a)).yields mid v rest → Fits (each (λ y. space then c y) v) → (t : Bytes) → Closes t
          → (meaning (blanks0 ▹ list0 blanks1 a)).yields (written (each (λ y. space then c y) v) ++ t) (map l v) t
      behind_blanks [] mid rest y f t g = after-on blanks0 (list0 blanks1 a) t [] t [] t (refl, refl, closes-in (outside is_blank) refl refl t g) (listed.again mid [] rest y tt t g)
      behind_blanks (x ∷ xs) mid rest y f t g =
          let others = each (λ w. space then c w) xs in
          let begins_ = subst (BeginsWith (outside is_blank)) (sym (written_on (c x) others t)) (begin x (written others ++ t)) in
          after-on blanks0 (list0 blanks1 a) _ (32 ∷ []) (written (c x then others) ++ t) (map l (x ∷ xs)) t (refl, refl, begins_) (listed.again mid (x ∷ xs) rest y f t g)

-- no text begins where an item closes
closed : (b : ℕ) (t : Bytes) → closes b ≡ true → Denies (meaning astring_utf8) (b ∷ t)
unfolding astring_utf8 astring string quoted literal literal_header
closed b t h = at (or_cases (b == 41) (b == 13) h)
  where
    at : ((b == 41) ≡ true) ⊎ ((b == 13) ≡ true) → Denies (meaning astring_utf8) (b ∷ t)
    at (inl e) = subst (λ x. Denies (meaning astring_utf8) (x ∷ t)) (sym (eqb-true b 41 e)) (search denials depth 30)
    at (inr e) = subst (λ x. Denies (meaning astring_utf8) (x ∷ t)) (sym (eqb-true b 13 e)) (search denials depth 30)

pub closes_text : (t : Bytes) → Closes t → Denies (meaning astring_utf8) t
closes_text [] g = absurd (false≢true g)
closes_text (b ∷ t) g = closed b t g

-- ---- ACL

keeps_acl_entry : SpellsAndReadsBack acl_entry lent_acl_entry canonical_acl_entry spells_acl_entry Any
unfolding acl_entry
keeps_acl_entry = keeps-gives acl_entry_of (keeps-astring_utf8 ⨾ᵏ keeps-blanks keeps_rights (λ v t. refl)) (λ x. refl)

no_acl_entry : (t : Bytes) → Closes t → Denies (meaning acl_entry) t
unfolding acl_entry
no_acl_entry t g = denies-gives _ _ _ (denies-seq _ _ _ (closes_text t g))

keeps_entries : SpellsAndReadsBack (blanks0 ▹ acl_entries) (map lent_acl_entry) (each (λ e. space then canonical_acl_entry e)) (λ es. blanks and with_between some_blanks spells_acl_entry es) Closes
unfolding acl_entries
keeps_entries = record {
  spelled = spells-blanks0 ▹ˢ spells-list0 spells-blanks1 keeps_acl_entry.spelled;
  back = reads_spaced_list keeps_acl_entry.back (λ y t. refl) no_acl_entry;
}

pub keeps_acl : SpellsAndReadsBack acl lent_acl canonical_acl spells_acl Closes
unfolding acl
keeps_acl = keeps-gives acl_of (keeps-word "ACL" (keeps-blanks (keeps_mailbox ⨾ᵏ keeps_entries) (λ v t. refl))) (λ x. refl)

pub keeps_my_rights : SpellsAndReadsBack my_rights lent_my_rights canonical_my_rights spells_my_rights Any
unfolding my_rights
keeps_my_rights = keeps-gives my_rights_of (keeps-word "MYRIGHTS" (keeps-blanks (keeps_mailbox ⨾ᵏ keeps-blanks keeps_rights (λ v t. refl)) (λ v t. refl))) (λ x. refl)
