use Rattle.std.proofs.Common.{◌≡◌, ◌-◌, length, sym}
use Rattle.std.specs.String.{string_bytes}
use Rattle.imap_report.proofs.Items.{response_item, waiting_none, denied_none}
use Rattle.imap_report.proofs.Turns.{line_of_given}
use Rattle.imap_report.proofs.telling.next_turn.Goals as goal

pub returns-in_ok-as_line-in-Ok-Some : goal.returns-in_ok-as_line-in-Ok-Some
returns-in_ok-as_line-in-Ok-Some g c =
    let words = g.T.Wording.words c.args.wording.now in
    let gave = rw c.in-Ok-Some.field-0-is at c.in-Ok-Some.ensures.gives in
    let n : length c.held-before.result.now - length c.held.result.now ≡ length c.args.feed.now - length c.next.new.self = cc (c.held-before.ensures, c.held.ensures) in (
      _,
      response_item words.on_denied c.args.feed.now gave.0 c.next.new.self gave.1,
      line_of_given words c.args.feed.now c.next.new.self _ (string_bytes c.in_ok-text-in-Ok-Some.field-0) _ c.in-Ok-Some.response gave c.in_ok-text-in-Ok-Some.ensures n c.in_ok-as_line-in-Ok-Some.ensures,
    )

pub returns-in-Ok-None : goal.returns-in-Ok-None
returns-in-Ok-None g c =
    let gave = rw c.in-Ok-None.field-0-is at c.in-Ok-None.ensures.gives in
    (gave.0, waiting_none _ c.args.feed.now gave.0, gave.1)

pub returns-in-Stop : goal.returns-in-Stop
returns-in-Stop g c =
    let denied = rw c.in-Err-Denied.field-0-is at c.in-Err-Denied.ensures.denied in
    (denied, denied_none _ c.args.feed.now (sym c.in-Stop.ensures) denied, c.in-Err-Denied.ensures.kept)
