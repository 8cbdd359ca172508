-- Which alternatives answer, by the first byte.
use Rattle.std.proofs.Common.{◌≡◌, ℕ, List, None, Err, refl}
use Rattle.std.specs.Prelude.{slice_get}
use Rattle.imap_grammar.specs.declared.answer.Err.TheVariants.{Incomplete}
use Rattle.imap_grammar.specs.declared.answer.Needed.TheVariants.{Unknown}
use Rattle.imap_grammar.specs.Rule.{never}
use Rattle.imap_grammar.specs.Step.{step}
use Rattle.imap_grammar.proofs.Starts.{AtAny, AtDigit, AtOther, AtOtherThanDigits, waits_without, by_any, by_digit, by_other, by_other_than_digits}
use Rattle.imap_data.specs.Codes.{any_code, basic_code, metadata_code, bad_charset, highest_mod_seq, code_of_a, code_of_c, code_of_p, code_of_r, code_of_t, code_of_u}
use Rattle.imap_data.specs.Counts.{status_item, item_of_u, messages, highest_mod_seq as item_mod_seq, recent as item_recent}
use Rattle.imap_data.specs.MailboxData.{mailbox_datum, flags, datum_of_number, list_or_lsub, datum_of_s, datum_of_x}
use Rattle.imap_data.proofs.Rules.{code_rules, item_rules, datum_rules}

-- ---- codes

pub code_none : (m : List ℕ) → slice_get m 0 ≡ None → step any_code m ≡ Err (Incomplete Unknown)
unfolding any_code basic_code
code_none m is = waits_without any_code m is refl

pub code_is_of_a : AtAny "aA" any_code code_of_a
unfolding code_rules code_of_a
code_is_of_a = by_any "aA" any_code code_of_a (λ m. refl)

pub code_is_bad_charset : AtAny "bB" any_code bad_charset
unfolding code_rules
code_is_bad_charset = by_any "bB" any_code bad_charset (λ m. refl)

pub code_is_of_c : AtAny "cC" any_code code_of_c
unfolding code_rules code_of_c
code_is_of_c = by_any "cC" any_code code_of_c (λ m. refl)

pub code_is_highest_mod_seq : AtAny "hH" any_code highest_mod_seq
unfolding code_rules
code_is_highest_mod_seq = by_any "hH" any_code highest_mod_seq (λ m. refl)

pub code_is_metadata : AtAny "mM" any_code metadata_code
unfolding code_rules
code_is_metadata = by_any "mM" any_code metadata_code (λ m. refl)

pub code_is_of_p : AtAny "pP" any_code code_of_p
unfolding code_rules code_of_p
code_is_of_p = by_any "pP" any_code code_of_p (λ m. refl)

pub code_is_of_r : AtAny "rR" any_code code_of_r
unfolding code_rules code_of_r
code_is_of_r = by_any "rR" any_code code_of_r (λ m. refl)

pub code_is_of_t : AtAny "tT" any_code code_of_t
unfolding code_rules code_of_t
code_is_of_t = by_any "tT" any_code code_of_t (λ m. refl)

pub code_is_of_u : AtAny "uU" any_code code_of_u
unfolding code_rules code_of_u
code_is_of_u = by_any "uU" any_code code_of_u (λ m. refl)

pub code_other : AtOther "aAbBcChHmMpPrRtTuU" any_code never
unfolding code_rules
code_other = by_other "aAbBcChHmMpPrRtTuU" any_code never (λ m. refl)

pub ruleset code_arms = (
  code_none,
  code_is_of_a,
  code_is_bad_charset,
  code_is_of_c,
  code_is_highest_mod_seq,
  code_is_metadata,
  code_is_of_p,
  code_is_of_r,
  code_is_of_t,
  code_is_of_u,
  code_other,
)

-- ---- items of STATUS

pub item_none : (m : List ℕ) → slice_get m 0 ≡ None → step status_item m ≡ Err (Incomplete Unknown)
unfolding status_item item_mod_seq
item_none m is = waits_without status_item m is refl

pub item_is_highest_mod_seq : AtAny "hH" status_item item_mod_seq
unfolding item_rules
item_is_highest_mod_seq = by_any "hH" status_item item_mod_seq (λ m. refl)

pub item_is_messages : AtAny "mM" status_item messages
unfolding item_rules
item_is_messages = by_any "mM" status_item messages (λ m. refl)

pub item_is_recent : AtAny "rR" status_item item_recent
unfolding item_rules
item_is_recent = by_any "rR" status_item item_recent (λ m. refl)

pub item_is_of_u : AtAny "uU" status_item item_of_u
unfolding item_rules item_of_u
item_is_of_u = by_any "uU" status_item item_of_u (λ m. refl)

pub item_other : AtOther "hHmMrRuU" status_item never
unfolding item_rules
item_other = by_other "hHmMrRuU" status_item never (λ m. refl)

pub ruleset item_arms = (
  item_none,
  item_is_highest_mod_seq,
  item_is_messages,
  item_is_recent,
  item_is_of_u,
  item_other,
)

-- ---- data of a mailbox

pub datum_none : (m : List ℕ) → slice_get m 0 ≡ None → step mailbox_datum m ≡ Err (Incomplete Unknown)
unfolding mailbox_datum flags
datum_none m is = waits_without mailbox_datum m is refl

pub datum_is_flags : AtAny "fF" mailbox_datum flags
unfolding datum_rules
datum_is_flags = by_any "fF" mailbox_datum flags (λ m. refl)

pub datum_is_list_or_lsub : AtAny "lL" mailbox_datum list_or_lsub
unfolding datum_rules list_or_lsub
datum_is_list_or_lsub = by_any "lL" mailbox_datum list_or_lsub (λ m. refl)

pub datum_is_of_s : AtAny "sS" mailbox_datum datum_of_s
unfolding datum_rules datum_of_s
datum_is_of_s = by_any "sS" mailbox_datum datum_of_s (λ m. refl)

pub datum_is_of_x : AtAny "xX" mailbox_datum datum_of_x
unfolding datum_rules datum_of_x
datum_is_of_x = by_any "xX" mailbox_datum datum_of_x (λ m. refl)

pub datum_is_of_number : AtDigit mailbox_datum datum_of_number
unfolding datum_rules datum_of_number
datum_is_of_number = by_digit mailbox_datum datum_of_number (λ m. refl)

pub datum_other : AtOtherThanDigits "fFlLsSxX" mailbox_datum never
unfolding datum_rules
datum_other = by_other_than_digits "fFlLsSxX" mailbox_datum never (λ m. refl)

pub ruleset datum_arms = (
  datum_none,
  datum_is_flags,
  datum_is_list_or_lsub,
  datum_is_of_s,
  datum_is_of_x,
  datum_is_of_number,
  datum_other,
)
