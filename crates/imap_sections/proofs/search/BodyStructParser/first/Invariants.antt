use Rattle.std.proofs.Common.{All, false, take}
use Rattle.std.specs.Fn.{FnReturnsAt}
use Rattle.imap_sections.proofs.search.BodyStructParser.first.Given as goal

abbrev pub invariant-loop-part : goal.invariant-loop-part
invariant-loop-part g l = All (λ p. FnReturnsAt g.F.Fn l.f p.body.now false) (take l.part-index l.part-items)
