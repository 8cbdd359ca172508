use Rattle.std.proofs.Common.{false, subst, refl, All, Some, ◌∙◌}
use Rattle.std.proofs.lemmas.List.{take_all}
use Rattle.std.specs.Fn.{FnReturnsAt}
use Rattle.imap_sections.specs.Search.{FindsFirst}
use Rattle.imap_sections.specs.declared.search.Part.{Part}
use Rattle.imap_sections.proofs.Visits.{found_here, not_here}
use Rattle.imap_sections.proofs.search.BodyStructParser.first.Goals as goal

pub returns-then-f : goal.returns-then-f
returns-then-f g c =
    let says : FnReturnsAt g.F.Fn c.args.f c.part-item.result.body.now c.f.result = record { shown = c.part-item.result.body; shows = refl; says = record { met = c.f.ensures } } in
    subst (λ xs. FindsFirst (λ (p : Part). FnReturnsAt g.F.Fn c.args.f p.body.now) (λ p. p.path.items) xs (Some c.part-item.result.path.items)) c.deref-part-items.ensures.value
    (found_here (λ (p : Part). FnReturnsAt g.F.Fn c.args.f p.body.now) c.deref-part-items.result.now c.loop-part.part-index c.loop-part-test.true c.part-item.result c.part-item.is c.loop-part.invariant (λ p. p.path.items)
    (subst (λ b. FnReturnsAt g.F.Fn c.args.f c.part-item.result.body.now b) c.if-f.true says))

pub loop-part-preserved : goal.loop-part-preserved
loop-part-preserved g c =
    let says : FnReturnsAt g.F.Fn c.args.f c.part-item.result.body.now c.f.result = record { shown = c.part-item.result.body; shows = refl; says = record { met = c.f.ensures } } in
    not_here (λ (p : Part). FnReturnsAt g.F.Fn c.args.f p.body.now) c.deref-part-items.result.now c.loop-part.part-index c.loop-part-test.true c.part-item.result c.part-item.is c.loop-part.invariant
    (subst (λ b. FnReturnsAt g.F.Fn c.args.f c.part-item.result.body.now b) c.if-f.false says)

pub returns : goal.returns
returns g c =
    subst (All (λ (p : Part). FnReturnsAt g.F.Fn c.args.f p.body.now false)) (take_all c.loop-part.part-index c.deref-part-items.result.now c.loop-part-test.false ∙ c.deref-part-items.ensures.value) c.loop-part.invariant
