use Rattle.std.proofs.Common.{arith}
use Rattle.imap_proto.specs.Streams.{empty}
use Rattle.imap_proto.specs.Skipping.{at_first}
use Rattle.imap_proto.proofs.Feeds.{nothing_waits_for}
use Rattle.imap_proto.proofs.stream.Feed.new.Goals as goal

pub invariant_of-result : goal.invariant_of-result
invariant_of-result c = (omega arith, rw c.new.ensures.items nothing_waits_for)

pub returns-clause-begins : goal.returns-clause-begins
returns-clause-begins c = rw c.new.ensures.items empty

pub returns-clause-passes : goal.returns-clause-passes
returns-clause-passes c = rw c.new.ensures.items at_first
