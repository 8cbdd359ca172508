use Rattle.std.proofs.Common.{◌∙◌, sym, ap}
use Rattle.imap_command.specs.Arguments.{judgement}
use Rattle.imap_command.proofs.Refusals.{first_refused}
use Rattle.imap_command.proofs.judging.judge_strings.Goals as goal

pub returns-in-Err : goal.returns-in-Err
returns-in-Err c =
    first_refused c.args.strings.now c.loop-string.string-index _ c.in-Err.refusal c.loop-string-test.true c.in-Err.ensures
    ∙ ap judgement (sym c.loop-string.invariant)
