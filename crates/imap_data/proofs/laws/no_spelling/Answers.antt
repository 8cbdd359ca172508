use Rattle.std.proofs.Common.{[], inl, inr, refl}
use Rattle.std.proofs.Common.{codes as bytes}
use Rattle.imap_grammar.specs.Text.{as_text}
use Rattle.imap_grammar.proofs.NoSpelling.{refuted, ◌andᵖ◌, passes-this, passes-any_case, passes-number}
use Rattle.imap_data.proofs.NoSpelling.{passes-member, passes-inbox}
use Rattle.imap_data.proofs.NoIdSpelling.{passes-one_field}
use Rattle.imap_data.proofs.laws.no_spelling.Goals as goal

pub returns-clause-another_end : goal.returns-clause-another_end
returns-clause-another_end c = refuted (passes-member 2 4 andᵖ passes-this []) (bytes "2:5") refl

pub returns-clause-a_single_uid : goal.returns-clause-a_single_uid
returns-clause-a_single_uid c = refuted (passes-member 2 2 andᵖ passes-this []) (bytes "2") refl

pub returns-clause-a_longer_inbox : goal.returns-clause-a_longer_inbox
returns-clause-a_longer_inbox c (inl x) = refuted passes-inbox (bytes "INBOXX") refl x.1
returns-clause-a_longer_inbox c (inr x) = absurd cc

pub returns-clause-another_last_value : goal.returns-clause-another_last_value
returns-clause-another_last_value c = refuted (passes-one_field (bytes "a") (as_text (bytes "1"))) (bytes "(\"a\" \"1\" \"a\" \"2\")") refl

pub returns-clause-another_key : goal.returns-clause-another_key
returns-clause-another_key c = refuted (passes-one_field (bytes "a") (as_text (bytes "1"))) (bytes "(\"b\" \"1\")") refl

pub returns-clause-two_spaces : goal.returns-clause-two_spaces
returns-clause-two_spaces c = refuted (passes-this (bytes "[") andᵖ (passes-any_case "UIDNEXT " andᵖ passes-number 1) andᵖ passes-this (bytes "]")) (bytes "[UIDNEXT  1]") refl
