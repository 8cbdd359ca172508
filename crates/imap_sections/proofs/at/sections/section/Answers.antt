use Rattle.std.proofs.Common.{refl}
use Rattle.imap_grammar.proofs.Memory.{holds_already, begins_tag}
use Rattle.imap_sections.specs.Sections.{section}
use Rattle.imap_sections.proofs.at.sections.section.Goals as goal

pub returns-clause-steps : goal.returns-clause-steps
unfolding section
returns-clause-steps c = rw (c.in_ok-p.ensures.steps, c.in_ok-p-2.ensures.steps, c.in_ok-p-3.ensures.steps) refl

pub returns-in_err-p-2-clause-memory : goal.returns-in_err-p-2-clause-memory
returns-in_err-p-2-clause-memory c = holds_already _ c.from_residual-in_err-p-2.result (begins_tag "[" _ _ _ refl c.in_ok-p.ensures.steps)
