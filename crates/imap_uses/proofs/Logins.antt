-- A login is finished by a tagged `OK`, and by nothing else.
use Rattle.std.proofs.Common.{◌≡◌, Option, None, Some, Ok, refl, sym, ap, ◌∙◌}
use Rattle.imap_shared.specs.declared.types.statuses.Status.TheVariants as status
use Rattle.imap_command.specs.declared.command.State.TheVariants.{Authenticated}
use Rattle.imap_proto.specs.Owned.{owned_response}
use Rattle.imap_proto.specs.Responses.{ResponseValue, Done}
use Rattle.imap_proto.proofs.Streams.{stable}
use Rattle.imap_session.specs.declared.event.Event.{Event}
use Rattle.imap_session.specs.Answers.{event_of, AnswersNext}
use Rattle.imap_session.specs.Machine.{Machine, Takes, Nexts}
use Rattle.imap_uses.specs.Sessions.{AwaitsLogin, Succeeds, status_of, finished_with}

-- the status in the event that a response is
told_by : (a b : Machine) (v : ResponseValue) → Nexts a (Takes v) b → status_of (event_of (owned_response v)) ≡ Some status.Ok → Succeeds a b
told_by a b (Done tag status.Ok o) n h = (tag, o, n)
told_by a b (Done tag other o) n h = absurd cc
told_by a b v n h = absurd cc

pub succeeds : (a b : Machine) (x : Option Event) → AnswersNext a (Ok x) b → finished_with x ≡ Some status.Ok → Succeeds a b
succeeds a b None n h = absurd cc
succeeds a b (Some e) n h = told_by a b n.0 n.1 (sym (ap status_of n.2) ∙ h)

pub tells_success : (a b : Machine) (x : Option Event) → AnswersNext a (Ok x) b → Succeeds a b → finished_with x ≡ Some status.Ok
tells_success a b None n s = absurd (n.1.0 _ s.2.0 s.2.2)
tells_success a b (Some e) n s =
    let same = (stable.one_yield a.held n.0 _ n.1.0 s.2.0 n.1.2 s.2.2).0 in
    ap status_of n.2 ∙ ap (λ v. status_of (event_of (owned_response v))) same

-- then the session is authenticated
pub authenticated : (a b : Machine) → AwaitsLogin a → Succeeds a b → b.state ≡ Authenticated
authenticated a b w s = ap (λ (m : Machine). m.state) s.2.4 ∙ rw (w.state, w.leads) refl
