use Rattle.std.proofs.Common.{refl}
use Rattle.std.specs.String.{string_bytes}
use Rattle.imap_grammar.specs.Answer.{Answers}
use Rattle.imap_proto.proofs.Skipping.{none_dropped}
use Rattle.imap_report.proofs.Items.{open_none}
use Rattle.imap_report.proofs.Turns.{line_of_dropped}
use Rattle.imap_report.proofs.telling.skipping_turn.Goals as goal

pub returns-in-Err : goal.returns-in-Err
returns-in-Err g c =
    let none = none_dropped c.args.feed.now c.in-Err.field-0 (rw c.held.ensures at c.in-Err.ensures.steps) in
    (c.requires.denied, open_none _ c.args.feed.now c.requires.denied none.0, refl)

pub returns : goal.returns
unfolding Answers
returns g c =
    let yields = rw c.held.ensures at c.in-Ok.ensures.answer in
    line_of_dropped (g.T.Wording.words c.args.wording.now) c.args.feed.now c.in-Ok.line.now c.in-Ok.field-0-0.now c.skip_line.new.self _ (string_bytes c.in_ok-text-in-Ok.text) c.skip_line.result
    c.requires.skips c.requires.denied yields c.skip_line.ensures.drops c.in_ok-text-in-Ok.ensures c.in_ok-text.ensures
