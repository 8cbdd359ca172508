use Rattle.std.proofs.Common.{refl, arith}
use Rattle.imap_envelopes.specs.Envelopes.{listed_address}
use Rattle.imap_body_types.proofs.Places.{rests_more}
use Rattle.imap_envelopes.proofs.at.envelopes.listed_address.Goals as goal

pub returns : goal.returns
unfolding listed_address
returns g c =
    let address = c.in_ok-q.ensures.reads in
    rw (← c.input.view_is) (record {
      steps = rw (address.steps, c.in_ok-q-2.ensures.steps) refl;
      ahead = (omega (arith, address.ahead, c.in_ok-q-2.ensures.ahead), c.in_ok-q-2.ensures.ahead.1);
      rests = rests_more _ (omega (arith, c.in_ok-q-2.ensures.ahead)) address.rests;
    })
