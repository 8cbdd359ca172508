-- Quotas: what their rules take spells them, and their canonical texts read back.
use Rattle.std.proofs.Common.{◌∷◌, ◌++◌, refl, map}
use Rattle.imap_grammar.specs.Classes.{is_blank}
use Rattle.imap_grammar.specs.Meaning.{Denies, outside}
use Rattle.imap_grammar.specs.Rule.{meaning}
use Rattle.imap_grammar.specs.Text.{Bytes, lent_text}
use Rattle.imap_grammar.specs.Pieces.{Pieces, written, space, number_text, list_text, ◌then◌, literal_text, each}
use Rattle.imap_grammar.specs.ReadBack.{SpellsAndReadsBack, Any, BeginsWith, Closes}
use Rattle.imap_grammar.proofs.Reading.{first_yields, reads-gives, reads-seq, reads-after_where, reads-before, reads-list0, reads-many, apart_forms, denials, denies-after, Begins, begun, ◌▹ʳ◌}
use Rattle.imap_grammar.proofs.ReadingLists.{takes-text, takes-blanks}
use Rattle.imap_grammar.proofs.Reading.{denies-run1}
use Rattle.imap_grammar.proofs.Spelling.{◌⨾ˢ◌, ◌▹ˢ◌, ◌◃ˢ◌, spells-gives, spells-tag, spells-blanks1, spells-list0, spells-many}
use Rattle.imap_grammar.proofs.Keeping.{keeps-names, keeps-word, keeps-blanks, ◌⨾ᵏ◌, keeps-gives, keeps-first}
use Rattle.imap_grammar.specs.Spelling.{spells_astring_text, each_of, with_between, some_blanks, exactly, ◌and◌}
use Rattle.imap_bytes.specs.Strings.{astring, string, quoted, literal, literal_header}
use Rattle.imap_bytes.specs.Texts.{astring_utf8}
use Rattle.imap_bytes.proofs.ReadingTexts.{not_digit, reads-number_64}
use Rattle.imap_bytes.proofs.ReadingCounts.{number_no_blank, numbers_64_yield, blank_number, closes_blanks}
use Rattle.imap_bytes.proofs.SpellingTexts.{spells-number_64}
use Rattle.imap_bytes.proofs.Keeping.{keeps-astring_utf8}
use Rattle.imap_extensions.specs.Quotas.{QuotaResourceNameValue, Storage, Message, Atom, lent_quota_resource_name, lent_quota_resource, lent_quota, lent_quota_root, quota_resource_name, resource_of, quota_resource, quota_resources, quota_list, quota_of, quota, quota_root_name, quota_root_names, quota_root_of, quota_root}
use Rattle.imap_extensions.specs.QuotaTexts.{canonical_resource_name, canonical_resource, canonical_quota, canonical_quota_root, spells_resource_name, spells_resource, spells_quota, spells_quota_root}

keeps_resource_name : SpellsAndReadsBack quota_resource_name lent_quota_resource_name canonical_resource_name spells_resource_name Any
unfolding quota_resource_name
keeps_resource_name =
    keeps-first (keeps-names "STORAGE" Storage refl refl (λ c h. h)) (search apart_forms depth 20)
    (keeps-first (keeps-names "MESSAGE" Message refl refl (λ c h. h)) (search apart_forms depth 20)
    (keeps-gives Atom keeps-astring_utf8 (λ x. refl)))

keeps_resource : SpellsAndReadsBack quota_resource lent_quota_resource canonical_resource spells_resource (BeginsWith not_digit)
unfolding quota_resource
keeps_resource = record {
  spelled = spells-gives resource_of (keeps_resource_name.spelled ⨾ˢ spells-blanks1 ▹ˢ spells-number_64 ⨾ˢ spells-blanks1 ▹ˢ spells-number_64);
  back =
      reads-gives resource_of
      (reads-seq keeps_resource_name.back
      (reads-after_where takes-blanks (first_yields numbers_64_yield) (reads-seq reads-number_64 (blank_number numbers_64_yield reads-number_64) (λ y t g. refl))
      (λ y t small g. number_no_blank y.0 small (space then number_text y.1) t))
      (λ y t g. tt))
      (λ x. refl);
}

name_no_blank : (n : QuotaResourceNameValue) (q : Pieces) (t : Bytes) → BeginsWith (outside is_blank) (written (canonical_resource_name n then q) ++ t)
name_no_blank Storage q t = refl
name_no_blank Message q t = refl
name_no_blank (Atom x) q t = refl

no_resource : (t : Bytes) → Denies (meaning quota_resource) (41 ∷ t)
unfolding quota_resource quota_resource_name astring_utf8 astring string quoted literal literal_header
no_resource t = search denials depth 30

-- blanks stand between the resources
keeps_quota_list : SpellsAndReadsBack quota_list (map lent_quota_resource) (list_text canonical_resource) (λ rs. exactly "(" and with_between some_blanks spells_resource rs and exactly ")") Any
unfolding quota_list quota_resources
keeps_quota_list = record {
  spelled = spells-tag "(" ▹ˢ spells-list0 spells-blanks1 keeps_resource.spelled ◃ˢ spells-tag ")";
  back =
      takes-text "(" ▹ʳ
      reads-before
      (reads-list0 {G = Begins 41} takes-blanks keeps_resource.back (λ y t. name_no_blank y.name (space then number_text y.usage then space then number_text y.limit) t) (λ t. refl) (begun _ (λ u. refl))
      (begun _ (λ u. denies-run1 _ _ refl)) (begun _ no_resource))
      (takes-text ")") (λ t g. (t, refl));
}

pub keeps_quota : SpellsAndReadsBack quota lent_quota canonical_quota spells_quota Any
unfolding quota
keeps_quota = keeps-gives quota_of (keeps-word "QUOTA" (keeps-blanks (keeps-astring_utf8 ⨾ᵏ keeps-blanks keeps_quota_list (λ v t. refl)) (λ v t. refl))) (λ x. refl)

-- each behind blanks
keeps_root_names : SpellsAndReadsBack quota_root_names (map lent_text) (each (λ x. space then literal_text x)) (each_of (λ x. some_blanks and spells_astring_text x)) Closes
unfolding quota_root_names quota_root_name
keeps_root_names =
    let name = keeps-blanks keeps-astring_utf8 (λ v t. refl) in
    record { spelled = spells-many name.spelled; back = reads-many name.back (λ y t. tt) (λ t g. tt) (λ t g. denies-after _ _ _ (closes_blanks t g)) }

pub keeps_quota_root : SpellsAndReadsBack quota_root lent_quota_root canonical_quota_root spells_quota_root Closes
unfolding quota_root
keeps_quota_root = keeps-gives quota_root_of (keeps-word "QUOTAROOT" (keeps-blanks (keeps-astring_utf8 ⨾ᵏ keeps_root_names) (λ v t. refl))) (λ x. refl)
