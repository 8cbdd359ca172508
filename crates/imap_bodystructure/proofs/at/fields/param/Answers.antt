use Rattle.std.proofs.Common.{refl}
use Rattle.std.proofs.Math.Nat.{le_trans}
use Rattle.imap_bodystructure.specs.Fields.{body_param}
use Rattle.imap_body_types.proofs.Places.{rests_more}
use Rattle.imap_bodystructure.proofs.at.fields.param.Goals as goal

pub returns : goal.returns
unfolding body_param
returns c =
    let value = c.in_ok-p-2.ensures in
    let key = rests_more c.in_ok-p-2.p value.ahead.0 c.in_ok-p.ensures.rests in
    record {
      steps = rw (c.in_ok-p.ensures.steps, value.steps) refl;
      ahead = (le_trans c.in_ok-p.ensures.ahead.0 value.ahead.0, value.ahead.1);
      rests = record { same = λ n k alike. rw (key.same n k alike, value.rests.same n k alike) refl };
    }
