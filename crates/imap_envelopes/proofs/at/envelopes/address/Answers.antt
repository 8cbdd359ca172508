use Rattle.std.proofs.Common.{refl, arith, ◌≤◌}
use Rattle.std.proofs.Math.Nat.{le_trans}
use Rattle.imap_envelopes.specs.Envelopes.{address}
use Rattle.imap_body_types.proofs.Places.{rests_more}
use Rattle.imap_envelopes.proofs.at.envelopes.address.Goals as goal

pub returns-clause-reads : goal.returns-clause-reads
unfolding address
returns-clause-reads g c =
    let name = c.in_ok-p-2.ensures.reads in
    let adl = c.in_ok-p-3.ensures.reads in
    let mailbox = c.in_ok-p-4.ensures.reads in
    let host = c.in_ok-p-5.ensures.reads in
    let q = c.in_ok-p-6.p in
    let e5 : c.in_ok-p-5.p ≤ q = omega (arith, c.in_ok-p-6.ensures.inside) in
    let e4 : c.in_ok-p-4.p ≤ q = le_trans host.ahead.0 e5 in
    let e3 : c.in_ok-p-3.p ≤ q = le_trans mailbox.ahead.0 e4 in
    let e2 : c.in_ok-p-2.p ≤ q = le_trans adl.ahead.0 e3 in
    let names = rests_more q e2 name.rests in
    let adls = rests_more q e3 adl.rests in
    let mailboxes = rests_more q e4 mailbox.rests in
    let hosts = rests_more q e5 host.rests in
    record {
      steps = rw (c.in_ok-p.ensures.steps, name.steps, adl.steps, mailbox.steps, host.steps, c.in_ok-p-6.ensures.steps) refl;
      ahead = (omega (arith, c.in_ok-p.ensures.inside, name.ahead, e2), c.in_ok-p-6.ensures.inside.1);
      rests = record { same = λ n k alike. rw (names.same n k alike, adls.same n k alike, mailboxes.same n k alike, hosts.same n k alike) refl };
    }
