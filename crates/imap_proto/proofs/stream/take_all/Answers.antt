use Rattle.imap_proto.proofs.Streams.{shorter}
use Rattle.imap_proto.proofs.Wholes.{takes_one, put_one, put_none}
use Rattle.imap_proto.proofs.stream.take_all.Goals as goal

pub responses-smaller : goal.responses-smaller
responses-smaller c =
    let one = put_one _ _ _ _ c.next.result _ c.next.ensures.gives c.in_ok-end.ensures c.in_default.is in
    shorter _ _ one.1 one.2

pub responses-preserved : goal.responses-preserved
responses-preserved c = λ left after end t.
    let one = put_one _ _ _ _ c.next.result _ c.next.ensures.gives c.in_ok-end.ensures c.in_default.is in
    c.responses.invariant left after end (takes_one _ _ left _ _ after one.0 one.1 end one.2 one.3 one.4 t)

pub returns-in-Some : goal.returns-in-Some
returns-in-Some c = c.responses.invariant _ _ c.in-Some.end (put_none _ _ _ _ c.next.result _ c.in-Some.end c.next.ensures.gives c.next.ensures.denied c.next.ensures.kept c.in_ok-end.ensures c.in-Some.is)
