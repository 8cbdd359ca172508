-- Data that are one number: which rules yield none of them.
use Rattle.std.proofs.Common.{◌≡◌, ℕ, List, Ok, refl, inl, inr}
use Rattle.imap_grammar.specs.Memory.{BeginsWord}
use Rattle.imap_grammar.specs.Rule.{meaning}
use Rattle.imap_grammar.specs.Step.{step}
use Rattle.imap_grammar.proofs.Agreement.{reads}
use Rattle.imap_grammar.proofs.Memory.{never_both}
use Rattle.imap_grammar.proofs.Yields.{Yields, either_yields, made_yields}
use Rattle.imap_shared.specs.Gmail.{gmail_msgid, gmail_thrid}
use Rattle.imap_data.specs.DatumValues.{DatumValue, Flags, Listed, Search, Sort, GmailLabels, IsNumber}
use Rattle.imap_data.specs.Annotations.{solicited_of, metadata_solicited, unsolicited_of, metadata_unsolicited}
use Rattle.imap_data.specs.MailboxData.{flags, list, lsub, status_of, status, search, sort, labels, msgid, thrid, list_or_lsub, datum_of_s, datum_of_x}

abbrev IsOther : DatumValue → Type 0
IsOther v = ¬ (IsNumber v)

pub flags_other : Yields IsOther flags
unfolding flags
flags_other = made_yields Flags (λ v h. h)

pub list_or_lsub_other : Yields IsOther list_or_lsub
unfolding list_or_lsub list lsub
list_or_lsub_other = either_yields (made_yields Listed (λ v h. h)) (made_yields Listed (λ v h. h))

pub of_s_other : Yields IsOther datum_of_s
unfolding datum_of_s status search sort
of_s_other = either_yields (made_yields status_of (λ v h. h)) (either_yields (made_yields Search (λ v h. h)) (made_yields Sort (λ v h. h)))

labels_made : Yields IsOther labels
unfolding labels
labels_made = made_yields GmailLabels (λ v h. h)

-- where the word of labels stands in front, no number is yielded
pub labels_other : (v : DatumValue) (m rest : List ℕ) → BeginsWord "X-GM-LABELS " m → step datum_of_x m ≡ Ok (rest, v) → ¬ (IsNumber v)
unfolding datum_of_x msgid thrid gmail_msgid gmail_thrid meaning
labels_other v m rest b is = elim (reads datum_of_x m rest v is) [
  | inl y ↦ labels_made.each m v rest y
  | inr later ↦ elim (later.1) [
    | inl y ↦ absurd (never_both "X-GM-LABELS " "X-GM-MSGID " m refl b (y.1.0.0, y.1.1.0, y.1.1.1.0, y.1.1.1.1))
    | inr y ↦ absurd (never_both "X-GM-LABELS " "X-GM-THRID " m refl b (y.1.1.0.0, y.1.1.1.0, y.1.1.1.1.0, y.1.1.1.1.1))
  ]
]

pub solicited_other : Yields IsOther metadata_solicited
unfolding metadata_solicited
solicited_other = made_yields solicited_of (λ v h. h)

pub unsolicited_other : Yields IsOther metadata_unsolicited
unfolding metadata_unsolicited
unsolicited_other = made_yields unsolicited_of (λ v h. h)
