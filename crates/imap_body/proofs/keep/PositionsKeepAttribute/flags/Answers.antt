use Rattle.imap_body_types.proofs.Places.{parts_rest}
use Rattle.imap_body.proofs.Placing.{spans_said}
use Rattle.imap_body.proofs.keep.PositionsKeepAttribute.flags.Goals as goal

pub returns-clause-steps : goal.returns-clause-steps
returns-clause-steps c = rw (c.in_ok-texts_of.ensures, spans_said c.args.m.now c.in_ok-q.spans.items) c.in_ok-q.ensures.steps

pub returns-clause-rests : goal.returns-clause-rests
returns-clause-rests c =
    let rests = parts_rest _ _ c.in_ok-q.spans.items c.in_ok-q.ensures.inside in
    record { same = λ n k alike. rw c.in_ok-texts_of.ensures (rests.same n k alike) }
