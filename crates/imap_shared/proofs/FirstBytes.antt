-- Which alternatives answer, by the first byte.
use Rattle.std.proofs.Common.{◌≡◌, ℕ, List, None, Err, refl}
use Rattle.std.specs.Prelude.{slice_get}
use Rattle.imap_grammar.specs.declared.answer.Err.TheVariants.{Incomplete}
use Rattle.imap_grammar.specs.declared.answer.Needed.TheVariants.{Unknown}
use Rattle.imap_grammar.specs.Rule.{never}
use Rattle.imap_grammar.specs.Step.{step}
use Rattle.imap_grammar.proofs.Starts.{AtAny, AtOther, waits_without, by_any, by_other}
use Rattle.imap_shared.specs.Statuses.{status, ok_word, no_word, bad_or_bye, preauth_word}

pub status_none : (m : List ℕ) → slice_get m 0 ≡ None → step status m ≡ Err (Incomplete Unknown)
unfolding status
status_none m is = waits_without status m is refl

pub status_is_ok : AtAny "oO" status ok_word
unfolding status ok_word
status_is_ok = by_any "oO" status ok_word (λ m. refl)

pub status_is_no : AtAny "nN" status no_word
unfolding status no_word
status_is_no = by_any "nN" status no_word (λ m. refl)

pub status_is_bad_or_bye : AtAny "bB" status bad_or_bye
unfolding status bad_or_bye
status_is_bad_or_bye = by_any "bB" status bad_or_bye (λ m. refl)

pub status_is_preauth : AtAny "pP" status preauth_word
unfolding status preauth_word
status_is_preauth = by_any "pP" status preauth_word (λ m. refl)

pub status_other : AtOther "oOnNbBpP" status never
unfolding status
status_other = by_other "oOnNbBpP" status never (λ m. refl)

pub ruleset arms = (
  status_none,
  status_is_ok,
  status_is_no,
  status_is_bad_or_bye,
  status_is_preauth,
  status_other,
)
