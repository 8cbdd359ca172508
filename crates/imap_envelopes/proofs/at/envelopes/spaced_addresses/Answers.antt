use Rattle.std.proofs.Common.{rules}
use Rattle.imap_envelopes.proofs.at.envelopes.spaced_addresses.Goals as goal

pub returns : goal.returns
returns g c =
    let list = rw (← c.input.view_is) at c.addresses.ensures in
    rw (← c.input.view_is) (record {
      steps = search rules depth 2;
      ahead = search rules;
      rests = list.rests;
    })
