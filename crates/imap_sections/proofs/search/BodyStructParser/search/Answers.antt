use Rattle.std.proofs.Common.{List, ℕ, Some, subst, sym}
use Rattle.std.specs.List.{each_same}
use Rattle.std.proofs.lemmas.Result.{err_from_is_err_and}
use Rattle.std.specs.Fn.{FnReturnsAt}
use Rattle.imap_sections.specs.Search.{FindsFirst, parts_of}
use Rattle.imap_sections.specs.declared.search.Part.{Part}
use Rattle.imap_sections.proofs.search.BodyStructParser.search.Goals as goal

pub returns-in_err-path-clause-memory : goal.returns-in_err-path-clause-memory
returns-in_err-path-clause-memory g c =
    let p = err_from_is_err_and c.from_residual.result c.from_residual.ensures.1 in
    rw p.1 (c.in-Some.part.now.path.items, c.in-Some.ensures)

pub returns-clause-first : goal.returns-clause-first
returns-clause-first g c = subst (λ (found : List ℕ). FindsFirst (λ (p : Part). FnReturnsAt g.F.Fn c.args.f p.body.now) (λ p. p.path.items) (parts_of c.args.self.now) (Some found)) (sym (each_same _ _ c.in_ok-path.ensures.cases.0)) c.in-Some.ensures
