-- Which alternatives answer, by the first byte.
use Rattle.std.proofs.Common.{◌≡◌, ℕ, List, None, Err, refl}
use Rattle.std.specs.Prelude.{⊤, slice_get}
use Rattle.imap_grammar.specs.declared.answer.Err.TheVariants.{Incomplete}
use Rattle.imap_grammar.specs.declared.answer.Needed.TheVariants.{Unknown}
use Rattle.imap_grammar.specs.Rule.{never}
use Rattle.imap_grammar.specs.Step.{step}
use Rattle.imap_grammar.proofs.Starts.{AtNone, AtAny, AtDigit, AtOther, AtOtherThanDigits, by_none, waits_without, by_any, by_digit, by_other, by_other_than_digits}
use Rattle.imap_shared.specs.Statuses.{status}
use Rattle.imap_data.specs.MailboxData.{list_or_lsub}
use Rattle.imap_data.specs.Codes.{response_code}
use Rattle.imap_proto.specs.Outcomes.{outcome, plain_outcome}
use Rattle.imap_proto.proofs.Rules.{datum_rules}
use Rattle.imap_proto.specs.Lines.{continuation, data_line, request_tag, tagged, response, datum, state_datum, status_data, ended_datum, status_line, numbered_line, mailbox_line, list_line, capability_line, enabled_line, annotation_line, vanished_line, quota_line, id_line, acl_line}

-- ---- responses

-- Where this is unfolded, the choice is, and each rule of a line as far as its first byte.
unfoldable response_rules : ⊤
unfolding response continuation data_line tagged request_tag
response_rules = tt

pub response_none : AtNone response continuation
unfolding response continuation
response_none = by_none response continuation refl refl

pub response_plus : AtAny "+" response continuation
unfolding response_rules
response_plus = by_any "+" response continuation (λ m. refl)

pub response_star : AtAny "*" response data_line
unfolding response_rules
response_star = by_any "*" response data_line (λ m. refl)

pub response_other : AtOther "+*" response tagged
unfolding response_rules
response_other = by_other "+*" response tagged (λ m. refl)

-- ---- outcomes

pub outcome_uncoded : AtOther "[" outcome plain_outcome
unfolding outcome plain_outcome response_code
outcome_uncoded = by_other "[" outcome plain_outcome (λ m. refl)

pub no_code : AtOther "[" response_code never
unfolding response_code
no_code = by_other "[" response_code never (λ m. refl)

-- ---- data

pub datum_none : (m : List ℕ) → slice_get m 0 ≡ None → step ended_datum m ≡ Err (Incomplete Unknown)
unfolding ended_datum datum state_datum status_data status
datum_none m is = waits_without ended_datum m is refl

pub datum_of_status : AtAny "oOnNbBpP" ended_datum status_line
unfolding datum_rules status_line
datum_of_status = by_any "oOnNbBpP" ended_datum status_line (λ m. refl)

pub datum_of_mailbox : AtAny "fFsSxX" ended_datum mailbox_line
unfolding datum_rules mailbox_line
datum_of_mailbox = by_any "fFsSxX" ended_datum mailbox_line (λ m. refl)

pub datum_of_list : AtAny "lL" ended_datum list_line
unfolding datum_rules list_line list_or_lsub
datum_of_list = by_any "lL" ended_datum list_line (λ m. refl)

pub datum_of_capability : AtAny "cC" ended_datum capability_line
unfolding datum_rules capability_line
datum_of_capability = by_any "cC" ended_datum capability_line (λ m. refl)

pub datum_of_enabled : AtAny "eE" ended_datum enabled_line
unfolding datum_rules enabled_line
datum_of_enabled = by_any "eE" ended_datum enabled_line (λ m. refl)

pub datum_of_annotation : AtAny "mM" ended_datum annotation_line
unfolding datum_rules annotation_line
datum_of_annotation = by_any "mM" ended_datum annotation_line (λ m. refl)

pub datum_of_vanished : AtAny "vV" ended_datum vanished_line
unfolding datum_rules vanished_line
datum_of_vanished = by_any "vV" ended_datum vanished_line (λ m. refl)

pub datum_of_quota : AtAny "qQ" ended_datum quota_line
unfolding datum_rules quota_line
datum_of_quota = by_any "qQ" ended_datum quota_line (λ m. refl)

pub datum_of_id : AtAny "iI" ended_datum id_line
unfolding datum_rules id_line
datum_of_id = by_any "iI" ended_datum id_line (λ m. refl)

pub datum_of_acl : AtAny "aA" ended_datum acl_line
unfolding datum_rules acl_line
datum_of_acl = by_any "aA" ended_datum acl_line (λ m. refl)

pub datum_of_number : AtDigit ended_datum numbered_line
unfolding datum_rules numbered_line
datum_of_number = by_digit ended_datum numbered_line (λ m. refl)

pub datum_other : AtOtherThanDigits "oOnNbBpPfFsSxXlLcCeEmMvVqQiIaA" ended_datum never
unfolding datum_rules
datum_other = by_other_than_digits "oOnNbBpPfFsSxXlLcCeEmMvVqQiIaA" ended_datum never (λ m. refl)
