use Rattle.std.proofs.Common.{refl}
use Rattle.imap_sections.specs.Sections.{body_text}
use Rattle.imap_sections.proofs.at.sections.body_text.Goals as goal

pub returns-clause-steps : goal.returns-clause-steps
unfolding body_text
returns-clause-steps c = rw (c.in_ok-p.ensures.steps) refl
