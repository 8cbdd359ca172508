-- Why a text spells no such outcome.
use Rattle.std.proofs.Common.{◌≡◌, ◌++◌, ◌||◌, Bool, true, false, not, sym, refl, codes, encode_utf8, ℕ, ◌∙◌, Some}
use Rattle.std.specs.Str.Lossy.{utf8_lossy}
use Rattle.imap_grammar.specs.Text.{Bytes, Text}
use Rattle.imap_grammar.proofs.NoSpelling.{Passes, ◌andᵖ◌, passes-this, passes-any_case, is_ascii, ascii_is, one_before, one_is_before}
use Rattle.imap_data.specs.Codes as code
use Rattle.imap_proto.specs.OutcomeTexts.{spells_behind_code, spells_parts}

may_stand_before : (text c : Bytes) (first : ℕ) → utf8_lossy c ≡ encode_utf8 first ++ text → (ascii : Bool) → is_ascii c ≡ ascii → (not ascii || one_before text c) ≡ true
may_stand_before text c first e false is = refl
may_stand_before text c first e true is = one_is_before text c first is (sym (ascii_is c is) ∙ e)

pub passes-behind_code : (information : Text) → Passes (spells_behind_code information) (λ c. not (is_ascii c) || one_before information.bytes c)
passes-behind_code information = record { passes = λ c x. may_stand_before information.bytes c x.1.0 x.1.2 (is_ascii c) refl }

abbrev pub passes-alert : (information : Text) → (test : Bytes → Bool) × Passes (spells_parts (Some code.Alert) (Some information)) test
passes-alert information =
    (_, (passes-this (codes "[") andᵖ passes-any_case "ALERT" andᵖ passes-this (codes "]")) andᵖ passes-behind_code information)
