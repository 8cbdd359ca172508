use Rattle.imap_uses.proofs.Feeding.{denied, kept}
use Rattle.imap_uses.proofs.streams.take.Goals as goal

pub returns-clause-given : goal.returns-clause-given
returns-clause-given c = rw c.in_ok-feed.ensures.fed at c.next.ensures.gives

pub returns-clause-denied : goal.returns-clause-denied
returns-clause-denied c = denied c.feed.new.self _ c.next.new.self c.in_ok-feed.ensures.fed c.next.result c.next.ensures.denied

pub returns-clause-kept : goal.returns-clause-kept
returns-clause-kept c = kept c.feed.new.self _ c.next.new.self c.in_ok-feed.ensures.fed c.next.result c.next.ensures.kept
