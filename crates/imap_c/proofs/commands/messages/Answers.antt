use Rattle.std.proofs.Common.{inl, inr}
use Rattle.std.proofs.lemmas.Bool.Decides.{eqb_tells}
use Rattle.imap_command.specs.Calls.{range_from, range}
use Rattle.imap_c.proofs.Making.{messages_begun}
use Rattle.imap_c.proofs.commands.messages.Goals as goal

pub returns-then-last-eq0 : goal.returns-then-last-eq0
returns-then-last-eq0 c = rw c.if-last-eq0.true (messages_begun c.args.by_uid (range_from c.args.first) _ c.range_from.result c.in_ok-fetch.ensures c.range_from.ensures)

pub returns-else-last-eq0 : goal.returns-else-last-eq0
returns-else-last-eq0 c =
    let adds = rw (c.new.ensures.start, c.new.ensures.end) at c.range.ensures in
    elim (eqb_tells c.args.last 0) [
      | inl h ↦ absurd (c.if-last-eq0.false h.1)
      | inr h ↦ rw h.0 (messages_begun c.args.by_uid (range c.args.first c.args.last) _ c.range.result c.in_ok-fetch.ensures adds)
    ]
