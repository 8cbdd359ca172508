use Rattle.std.proofs.Common.{not, Some, refl, ap, subst, ◌∙◌}
use Rattle.imap_session.specs.Seen.{machine}
use Rattle.imap_session.specs.Answers.{AnswersSkip}
use Rattle.imap_session.specs.Machine.{went_on}
use Rattle.imap_session.proofs.Skipping.{line_skipped}
use Rattle.imap_session.proofs.session.Session.skip_line.Goals as goal

pub returns-clause-step : goal.returns-clause-step
returns-clause-step c =
    let s = c.self.inside in
    subst (λ a. AnswersSkip a (Some c.in_ok-skipped.skipped) (went_on c.skip_line.new.self (machine s))) c.self.view_is (line_skipped s.stopped (machine s) c.skip_line.new.self c.in_ok-skipped.skipped refl (c.is_none.ensures ∙ ap not c.if-is_none.false) c.in_ok-skipped.ensures.drops)
