use Rattle.std.proofs.Common.{arith, refl}
use Rattle.imap_bodystructure.specs.Fields.{quoted_encoding}
use Rattle.imap_body_types.proofs.Places.{rests_more}
use Rattle.imap_bodystructure.proofs.at.fields.quoted_encoding.Goals as goal

pub returns : goal.returns
unfolding quoted_encoding
returns c =
    let name = c.in_ok-p-2.ensures in
    let end = c.in_ok-p-3.ensures.inside in
    record {
      steps = rw (c.in_ok-p.ensures.steps, name.steps, c.in_ok-p-3.ensures.steps) refl;
      ahead = (omega (arith, c.in_ok-p.ensures.inside, name.ahead, end), end.1);
      rests = rests_more _ (omega (arith, end)) name.rests;
    }
