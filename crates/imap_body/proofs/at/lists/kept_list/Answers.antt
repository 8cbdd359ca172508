use Rattle.std.proofs.Common.{refl, arith, subst}
use Rattle.imap_grammar.proofs.Memory.{holds_already, begins_tag}
use Rattle.imap_bytes.proofs.Places.{behind_byte}
use Rattle.imap_body.specs.Attributes.{attribute_list}
use Rattle.imap_body.specs.SpannedAttributes.{TurnsAt}
use Rattle.imap_body.proofs.Standing.{in_turn_later}
use Rattle.imap_body.proofs.at.lists.kept_list.Goals as goal

pub returns-clause-kept : goal.returns-clause-kept
unfolding attribute_list
returns-clause-kept g c =
    let inside = c.in_ok-p-2.ensures.kept in
    let behind = behind_byte 40 c.args.m.now _ c.args.p c.in_ok-p.p c.in_ok-p.ensures.steps c.in_ok-p.ensures.inside.1 in
    (inside.0, inside.1, rw (c.in_ok-p.ensures.steps, inside.2, c.in_ok-p-3.ensures.steps, c.in_ok-p-4.ensures.steps) refl, in_turn_later _ _ _ _ _ _ inside.0 (subst (λ k. TurnsAt g.K.Keep.text_said g.K.Keep.bytes_said c.args.m.now k c.in_ok-p-2.p inside.0) behind inside.3) (omega (arith, c.in_ok-p-3.ensures.inside, c.in_ok-p-4.ensures.inside)))

pub returns-in_err-p-2-clause-memory : goal.returns-in_err-p-2-clause-memory
returns-in_err-p-2-clause-memory g c = holds_already _ c.from_residual-in_err-p-2.result (begins_tag "(" _ _ _ refl c.in_ok-p.ensures.steps)
