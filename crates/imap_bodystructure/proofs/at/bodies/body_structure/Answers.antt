use Rattle.imap_bodystructure.specs.Bodies.{body_structure}
use Rattle.imap_bodystructure.proofs.at.bodies.body_structure.Goals as goal

pub returns : goal.returns
unfolding body_structure
returns g c = c.one_body.ensures
