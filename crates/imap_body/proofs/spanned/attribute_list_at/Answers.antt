use Rattle.imap_grammar.proofs.Agreement.{answered_at}
use Rattle.imap_body.proofs.Standing.{kept_named, kept_in_turn, kept_in_front, kept_within}
use Rattle.imap_body.proofs.spanned.attribute_list_at.Goals as goal

pub returns-clause-steps : goal.returns-clause-steps
returns-clause-steps c = kept_named _ _ _ _ c.kept_list.ensures.kept

pub returns-clause-answer : goal.returns-clause-answer
returns-clause-answer c = answered_at _ _ _ _ _ (returns-clause-steps c)

pub returns-clause-rests : goal.returns-clause-rests
returns-clause-rests c = kept_in_front _ _ _ _ c.kept_list.ensures.kept

pub returns-clause-spans : goal.returns-clause-spans
returns-clause-spans c = kept_in_turn _ _ _ _ c.kept_list.ensures.kept

pub returns-clause-inside : goal.returns-clause-inside
returns-clause-inside c = kept_within _ _ _ _ c.kept_list.ensures.kept
