use Rattle.std.proofs.Common.{rules, ◌∙◌, sym, inl, inr}
use Rattle.imap_grammar.proofs.Joins.{tried_some, tried_fault}
use Rattle.imap_grammar.proofs.PositionJoins.{stopped_at, told_at, fault_at, found_at}
use Rattle.imap_grammar.proofs.at.lists.maybe_separated.Goals as goal

pub returns-in_err-found-clause-follows : goal.returns-in_err-found-clause-follows
returns-in_err-found-clause-follows g c =
    let q = tried_fault _ _ (sym c.tried.ensures ∙ c.in_err-found.was) in
    stopped_at c.in_err-found.field-0.0 (search rules) (elim (fault_at _ c.separated.ensures.follows q.0) [ inl f ↦ inl (inl (f, q.1)) | inr e ↦ inr e ])

pub returns-in-Some-clause-follows : goal.returns-in-Some-clause-follows
returns-in-Some-clause-follows g c =
    let is = tried_some _ _ _ (sym c.tried.ensures ∙ c.in_ok-found.was) c.in-Some.is in
    told_at (inl (found_at _ c.separated.ensures.follows is))
