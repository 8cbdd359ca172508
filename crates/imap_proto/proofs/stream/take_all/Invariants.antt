use Rattle.std.proofs.Common.{length}
use Rattle.imap_proto.specs.declared.stream.End.{End}
use Rattle.imap_proto.specs.declared.response.Response.{Response}
use Rattle.std.specs.Prelude.{List}
use Rattle.imap_grammar.specs.Text.{Bytes}
use Rattle.imap_proto.specs.Feeds.{TakesAll}
use Rattle.imap_proto.proofs.stream.take_all.Given as goal

-- what is taken from here on is taken from the first on
abbrev pub invariant-responses : goal.invariant-responses
invariant-responses l = (left : Bytes) (after : List Response) (end : End) → TakesAll l.feed l.responses.items left after end → TakesAll l.fn.feed l.fn.responses.items left after end

abbrev pub decreases-responses : goal.decreases-responses
decreases-responses l = length l.feed
