use Rattle.std.proofs.Common.{refl}
use Rattle.std.proofs.lemmas.Result.{err_from_is_err_and}
use Rattle.imap_grammar.specs.Rule.{opt}
use Rattle.imap_grammar.proofs.Memory.{no_memory}
use Rattle.imap_sections.specs.Sections.{part_path, part_text}
use Rattle.imap_sections.proofs.at.sections.part_path.Goals as goal

pub returns-clause-steps : goal.returns-clause-steps
unfolding part_path
returns-clause-steps c = rw (c.in_ok-p.ensures.steps, c.in_ok-p-2.ensures.steps) refl

pub returns-in_err-p-2-clause-memory : goal.returns-in_err-p-2-clause-memory
returns-in_err-p-2-clause-memory c =
    let p = err_from_is_err_and c.from_residual-in_err-p-2.result c.from_residual-in_err-p-2.ensures.1 in
    rw (p.1, p.2) (λ q. absurd (no_memory (opt part_text) _ c.in_err-p-2.field-0.0 c.in_err-p-2.ensures.steps q))
