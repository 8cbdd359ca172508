use Rattle.std.proofs.Common.{◌≡◌, false, subst, ap}
use Rattle.std.specs.Prelude.{option_map, IfErr}
use Rattle.imap_proto.specs.Feeds.{FeedMayWant}
use Rattle.imap_session.specs.declared.errors.SessionError.TheVariants as error
use Rattle.imap_session.specs.Seen.{pending_of, stop_of, machine}
use Rattle.imap_session.specs.Answers.{AnswersNext, NextMayWant, JudgesFront}
use Rattle.imap_session.proofs.Answers.{answered, settled_wants}
use Rattle.imap_session.proofs.session.Session.next.Goals as goal

pub returns-in-Ok-false-clause-step : goal.returns-in-Ok-false-clause-step
returns-in-Ok-false-clause-step c =
    let s = c.self.inside in
    let pending = option_map pending_of s.pending in
    let front = subst (JudgesFront pending s.feed) c.in-Ok-false.field-0-test (subst (λ h. JudgesFront pending h c.in-Ok-false.field-0) c.held.ensures c.in-Ok-false.ensures.judged) in
    subst (λ a. AnswersNext a c.settle.result c.settle.new.self) c.self.view_is (answered (machine s) c.next-given.new.self c.next-given.result c.settle.result c.settle.new.self (ap (option_map stop_of) c.in_default.is) front c.next-given.ensures.gives c.next-given.ensures.denied c.next-given.ensures.kept c.settle.ensures)

pub returns-in-Ok-false-clause-memory : goal.returns-in-Ok-false-clause-memory
returns-in-Ok-false-clause-memory c =
    subst (λ a. IfErr c.settle.result (λ e. e ≡ error.OutOfMemory → NextMayWant a)) c.self.view_is (settled_wants (machine c.self.inside) _ c.next-given.result c.settle.result _ (ap (option_map stop_of) c.in_default.is) c.next-given.ensures.denied c.settle.ensures)

pub returns-in-Err-clause-memory : goal.returns-in-Err-clause-memory
returns-in-Err-clause-memory c =
    λ _. subst NextMayWant c.self.view_is (ap (option_map stop_of) c.in_default.is, subst FeedMayWant c.held.ensures c.in-Err.ensures.memory)
