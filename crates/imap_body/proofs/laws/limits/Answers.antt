use Rattle.std.proofs.Common.{refl}
use Rattle.imap_bodystructure.specs.Extensions.{body_extension}
use Rattle.imap_bodystructure.specs.Bodies.{body_structure}
use Rattle.imap_body.proofs.laws.limits.Goals as goal

pub returns-clause-body : goal.returns-clause-body
unfolding body_structure
returns-clause-body c m = refl

pub returns-clause-extension : goal.returns-clause-extension
unfolding body_extension
returns-clause-extension c m = refl
