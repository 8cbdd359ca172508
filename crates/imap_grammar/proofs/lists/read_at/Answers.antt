use Rattle.std.proofs.Common.{arith}
use Rattle.std.proofs.lemmas.Fn.{says_at}
use Rattle.imap_grammar.proofs.Sliced.{ended}
use Rattle.imap_grammar.proofs.lists.read_at.Goals as goal

pub overflow_sub-result : goal.overflow_sub-result
overflow_sub-result g c =
    let cut = c.requires.ends.cut _ c.in_ok-after.after c.in_ok-after.item (says_at g.F.Fn c.f.ensures c.in_ok-after.was) in
    (ended c.args.m.now c.rest.result.now c.in_ok-after.after.now cut.0 c.args.p c.requires.start c.rest.ensures cut.1).0

pub returns-clause-answers : goal.returns-clause-answers
returns-clause-answers g c =
    let said = says_at g.F.Fn c.f.ensures c.in_ok-after.was in
    let cut = c.requires.ends.cut _ c.in_ok-after.after c.in_ok-after.item said in
    (c.in_ok-after.after, (ended c.args.m.now c.rest.result.now c.in_ok-after.after.now cut.0 c.args.p c.requires.start c.rest.ensures cut.1).1, rw (← c.rest.ensures) said)

pub returns-clause-ahead : goal.returns-clause-ahead
returns-clause-ahead g c =
    let cut = c.requires.ends.cut _ c.in_ok-after.after c.in_ok-after.item (says_at g.F.Fn c.f.ensures c.in_ok-after.was) in
    let at = ended c.args.m.now c.rest.result.now c.in_ok-after.after.now cut.0 c.args.p c.requires.start c.rest.ensures cut.1 in
    (at.2, omega arith)
