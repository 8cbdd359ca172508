use Rattle.std.proofs.Common.{[], inl, inr, refl, codes, arith}
use Rattle.imap_grammar.specs.Text.{as_text}
use Rattle.imap_grammar.proofs.NoSpelling.{refuted, ◌andᵖ◌, passes-this, passes-number, passes-maybe, passes-value, passes-lossy, tells-literal, tells-quoted, tells-string}
use Rattle.imap_bytes.proofs.laws.no_spelling.Goals as goal

pub returns-clause-a_byte_short : goal.returns-clause-a_byte_short
returns-clause-a_byte_short c = refuted (passes-value tells-literal (codes "abc")) _ refl

pub returns-clause-another_count : goal.returns-clause-another_count
returns-clause-another_count c = refuted (passes-value tells-literal (codes "abc")) _ refl

pub returns-clause-a_bare_quote : goal.returns-clause-a_bare_quote
returns-clause-a_bare_quote c = refuted (passes-value tells-quoted (codes "a\"b")) _ refl

pub returns-clause-another_text : goal.returns-clause-another_text
returns-clause-another_text c = refuted (passes-lossy tells-string (as_text (codes "a"))) _ refl

pub returns-clause-ends_in_another_order : goal.returns-clause-ends_in_another_order
returns-clause-ends_in_another_order c (_, inl ends) = refuted (passes-number 2 andᵖ passes-this (codes ":") andᵖ passes-number 4) (codes "4:2") refl ends
returns-clause-ends_in_another_order c (_, inr single) = refuted (passes-number 2) (codes "4:2") refl single.1

pub returns-clause-one_end : goal.returns-clause-one_end
returns-clause-one_end c (_, inl ends) = refuted (passes-number 2 andᵖ passes-this (codes ":") andᵖ passes-number 4) (codes "2") refl ends
returns-clause-one_end c (_, inr single) = absurd (search arith)

pub returns-clause-two_spaces : goal.returns-clause-two_spaces
returns-clause-two_spaces c =
    let space = passes-this (codes " ") in
    refuted (passes-this (codes "(") andᵖ (passes-number 1 andᵖ (space andᵖ passes-number 2) andᵖ passes-this []) andᵖ passes-maybe space andᵖ passes-this (codes ")")) _ refl
