use Rattle.std.proofs.Common.{refl, ap, ◌∙◌, arith, rules, ◌≡◌, ◌<◌, ◌≤◌, length, drop}
use Rattle.std.proofs.Math.Nat.{le_trans}
use Rattle.imap_grammar.proofs.Agreement.{stops}
use Rattle.imap_grammar.proofs.Loops.{onto_nothing}
use Rattle.imap_envelopes.specs.Envelopes.{address, listed_address, some_addresses}
use Rattle.imap_body_types.specs.EnvelopeValues.{address_seen}
use Rattle.imap_envelopes.proofs.Gathering.{next, all, stopped, some_are, not_none, none_there, one_there, onward}
use Rattle.imap_grammar.specs.Positions.{named_in}
use Rattle.imap_body_types.proofs.Places.{together}
use Rattle.imap_envelopes.proofs.at.envelopes.some_addresses.Goals as goal

pub addresses-init : goal.addresses-init
addresses-init g c = record {
  gathered = rw c.in_ok-items.ensures.items (record { so_far = onto_nothing _ });
  rests = rw c.in_ok-items.ensures.items (record { same = λ n k alike. refl });
  ahead = omega arith;
  within = c.requires;
}

pub addresses-smaller : goal.addresses-smaller
unfolding listed_address address
addresses-smaller g c =
    let is = c.in-Ok.is in
    let less : c.addresses.q < c.in-Ok.after = onward listed_address c.args.input.now _ _ _ (rw is at c.listed_address.ensures.steps) refl in
    omega (arith, less, rw is at c.listed_address.ensures.ahead)

pub addresses-preserved : goal.addresses-preserved
unfolding listed_address address
addresses-preserved g c =
    let is = c.in-Ok.is in
    let far = rw is at c.listed_address.ensures.ahead in
    let steps = rw is at c.listed_address.ensures.steps in
    let rests = rw is at c.listed_address.ensures.rests in
    record {
      gathered = rw c.in_ok-push-in-Ok.ensures.items (next (λ x. address_seen (g.K.Keep.bytes_said (named_in c.args.input.now)) x) _ listed_address _ _ _ c.in-Ok.address c.addresses.invariant.gathered steps refl);
      rests = rw c.in_ok-push-in-Ok.ensures.items (together (λ n x. address_seen (g.K.Keep.bytes_said n) x) _ _ _ _ far.0 c.addresses.invariant.rests rests);
      ahead = le_trans c.addresses.invariant.ahead far.0;
      within = far.1;
    }

pub returns-then-is_empty : goal.returns-then-is_empty
unfolding some_addresses listed_address address
returns-then-is_empty g c =
    let few : length c.addresses.items.items ≡ 0 = search (rules, c.is_empty.ensures, c.if-is_empty.true) in
    let read = all _ listed_address _ _ c.addresses.invariant.gathered (rw c.in-Error.is at (rw c.in-Err.is at c.listed_address.ensures.steps)) in
    record {
      steps = some_are listed_address (drop c.args.p c.args.input.now) refl ∙ none_there (λ x. address_seen (g.K.Keep.bytes_said (named_in c.args.input.now)) x) _ _ c.addresses.items.items few read;
      ahead = tt;
      rests = tt;
    }

pub returns : goal.returns
unfolding some_addresses listed_address address
returns g c =
    let few : 1 ≤ length c.addresses.items.items = search (rules, c.is_empty.ensures, c.if-is_empty.false) in
    let read = all _ listed_address _ _ c.addresses.invariant.gathered (rw c.in-Error.is at (rw c.in-Err.is at c.listed_address.ensures.steps)) in
    record {
      steps = some_are listed_address (drop c.args.p c.args.input.now) refl ∙ one_there (λ x. address_seen (g.K.Keep.bytes_said (named_in c.args.input.now)) x) _ _ c.addresses.items.items few read;
      ahead = (c.addresses.invariant.ahead, c.addresses.invariant.within);
      rests = record { same = λ n k alike. c.addresses.invariant.rests.same n k alike };
    }

pub returns-in_default : goal.returns-in_default
unfolding some_addresses listed_address address
returns-in_default g c =
    let read = stopped _ listed_address _ _ c.in-Err.error c.addresses.invariant.gathered c.in_default.not-Error (rw c.in-Err.is at c.listed_address.ensures.steps) in
    record { steps = stops _ _ (some_are listed_address (drop c.args.p c.args.input.now) refl ∙ ap not_none read); ahead = tt; rests = tt }
