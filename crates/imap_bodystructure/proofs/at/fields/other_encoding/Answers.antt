use Rattle.std.proofs.Common.{ap, refl}
use Rattle.imap_body_types.specs.declared.shapes.fields.ContentEncoding.TheVariants.{Other}
use Rattle.imap_bodystructure.specs.Fields.{other_encoding}
use Rattle.imap_bodystructure.proofs.at.fields.other_encoding.Goals as goal

pub returns : goal.returns
unfolding other_encoding
returns c = record {
  steps = rw (c.in_ok-p.ensures.steps) refl;
  ahead = c.in_ok-p.ensures.ahead;
  rests = record { same = λ n k alike. ap (λ t. Other t) (c.in_ok-p.ensures.rests.same n k alike) };
}
