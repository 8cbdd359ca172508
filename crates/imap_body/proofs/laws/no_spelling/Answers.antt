use Rattle.std.proofs.Common.{Bool, true, ◌&&◌, [], refl, codes}
use Rattle.std.specs.List.{list_all}
use Rattle.imap_grammar.specs.Classes.{is_atom_char}
use Rattle.imap_body.specs.AttributeTexts.{any_name, any_value}
use Rattle.imap_grammar.specs.Text.{Bytes, as_text}
use Rattle.imap_envelopes.specs.EnvelopeTexts.{spells_address}
use Rattle.imap_bodystructure.specs.ExtensionTexts.{spells_ext_1part}
use Rattle.imap_body.specs.NoSpelling.{a_mailbox_alone, an_md5_alone}
use Rattle.imap_grammar.proofs.NoSpelling.{Passes, refuted, ◌andᵖ◌, passes-this, passes-any_case, passes-some, filled, passes-value, passes-lossy, passes-number, passes-maybe, tells-string}
use Rattle.imap_body.proofs.laws.no_spelling.Goals as goal

abbrev passes-a_mailbox_alone : (m : Bytes) → (test : Bytes → Bool) × Passes (spells_address (a_mailbox_alone m)) test
passes-a_mailbox_alone m =
    let space = passes-this (codes " ") in
    let none = passes-any_case "NIL" in
    (_, passes-this (codes "(") andᵖ none andᵖ (space andᵖ none) andᵖ (space andᵖ passes-value tells-string m) andᵖ (space andᵖ none) andᵖ passes-this (codes ")"))

abbrev passes-an_md5_alone : (m : Bytes) → (test : Bytes → Bool) × Passes (spells_ext_1part (an_md5_alone m)) test
passes-an_md5_alone m =
    let space = passes-this (codes " ") in
    let none = passes-maybe (space andᵖ passes-any_case "NIL") in
    (_, (space andᵖ passes-lossy tells-string (as_text m)) andᵖ none andᵖ none andᵖ none andᵖ passes-this [])

pub returns-clause-a_field_too_many : goal.returns-clause-a_field_too_many
returns-clause-a_field_too_many c = refuted (passes-a_mailbox_alone (codes "m")).1 (codes "(NIL NIL \"m\" NIL NIL)") refl

pub returns-clause-another_field : goal.returns-clause-another_field
returns-clause-another_field c = refuted (passes-a_mailbox_alone (codes "m")).1 (codes "(NIL \"m\" NIL NIL)") refl

pub returns-clause-a_field_in_another_place : goal.returns-clause-a_field_in_another_place
returns-clause-a_field_in_another_place c = refuted (passes-an_md5_alone (codes "m")).1 (codes " NIL NIL NIL \"m\"") refl

pub returns-clause-another_part : goal.returns-clause-another_part
returns-clause-another_part c = refuted (passes-this (codes "[") andᵖ ((passes-number 1 andᵖ passes-this []) andᵖ passes-this []) andᵖ passes-this (codes "]")) (codes "[2]") refl

passes-name : Passes any_name (λ c. list_all is_atom_char c && filled c)
passes-name = record { passes = λ c h. (passes-some is_atom_char).passes c h.0 }

passes-any_value : Passes any_value (λ c. true)
passes-any_value = record { passes = λ c h. refl }

pub returns-clause-a_name_alone : goal.returns-clause-a_name_alone
returns-clause-a_name_alone c = refuted (passes-name andᵖ passes-this (codes " ") andᵖ passes-any_value) (codes "X") refl
