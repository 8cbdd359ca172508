-- Which alternatives answer, by the first byte.
use Rattle.std.proofs.Common.{◌≡◌, ℕ, List, None, Err, refl}
use Rattle.std.specs.Prelude.{slice_get}
use Rattle.imap_grammar.specs.declared.answer.Err.TheVariants.{Incomplete}
use Rattle.imap_grammar.specs.declared.answer.Needed.TheVariants.{Unknown}
use Rattle.imap_grammar.specs.Rule.{never}
use Rattle.imap_grammar.specs.Step.{step}
use Rattle.imap_grammar.proofs.Starts.{AtAny, AtOther, waits_without, by_any, by_other}
use Rattle.imap_sections.specs.Sections.{section_msgtext, header_fields, fields_word, header_text, body_text}

pub msgtext_none : (m : List ℕ) → slice_get m 0 ≡ None → step section_msgtext m ≡ Err (Incomplete Unknown)
unfolding section_msgtext header_fields fields_word
msgtext_none m is = waits_without section_msgtext m is refl

pub msgtext_is_header : AtAny "hH" section_msgtext header_text
unfolding section_msgtext header_fields fields_word header_text
msgtext_is_header = by_any "hH" section_msgtext header_text (λ m. refl)

pub msgtext_is_text : AtAny "tT" section_msgtext body_text
unfolding section_msgtext header_fields fields_word body_text
msgtext_is_text = by_any "tT" section_msgtext body_text (λ m. refl)

pub msgtext_other : AtOther "hHtT" section_msgtext never
unfolding section_msgtext header_fields fields_word
msgtext_other = by_other "hHtT" section_msgtext never (λ m. refl)

pub ruleset msgtext_arms = (msgtext_none, msgtext_is_header, msgtext_is_text, msgtext_other)
