use Rattle.imap_uses.proofs.Logins.{succeeds, tells_success, authenticated}
use Rattle.imap_uses.proofs.sessions.finishes_login.Goals as goal

pub returns-clause-finished : goal.returns-clause-finished
returns-clause-finished c =
    let next = succeeds c.args.session.now c.next.new.self c.in_ok-event.event c.in_ok-event.ensures.step in
    let told = tells_success c.args.session.now c.next.new.self c.in_ok-event.event c.in_ok-event.ensures.step in
    (λ done. next (c.is_finished_well-is_done.ensures.0 done), λ s. c.is_finished_well-is_done.ensures.1 (told s))

pub returns-clause-state : goal.returns-clause-state
returns-clause-state c = λ done. authenticated c.args.session.now c.next.new.self c.requires ((returns-clause-finished c).0 done)
