use Rattle.imap_session.proofs.Equality.{event_tells}
use Rattle.imap_session.proofs.laws.equality.Goals as goal

pub returns-clause-event : goal.returns-clause-event
returns-clause-event c = event_tells c.equality.ensures.response c.equality.ensures.outcome
