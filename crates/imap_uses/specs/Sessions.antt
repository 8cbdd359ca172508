-- A session that waits for the answer to a LOGIN.
use Rattle.std.specs.Prelude.{◌≡◌, Option, None, Some, Result, Ok, Err}
use Rattle.imap_shared.specs.declared.types.statuses.Status.{Status}
use Rattle.imap_shared.specs.declared.types.statuses.Status.TheVariants as status
use Rattle.imap_command.specs.declared.command.State.TheVariants.{NotAuthenticated, Authenticated}
use Rattle.imap_grammar.specs.Text.{Bytes}
use Rattle.imap_proto.specs.Responses.{OutcomeValue, Done}
use Rattle.imap_session.specs.declared.event.Event.{Event}
use Rattle.imap_session.specs.declared.errors.SessionError.{SessionError}
use Rattle.imap_session.specs.Answers.{AnswersNext, EventValue, Finished, event_value}
use Rattle.imap_session.specs.Machine.{Machine, leads_to, Takes, Nexts}

-- it isn't authenticated, and the command that is pending leads there
pub record AwaitsLogin (a : Machine) : Type 0 where
  pub state : a.state ≡ NotAuthenticated
  pub leads : leads_to a.pending ≡ Some Authenticated

-- the step from a to b took a tagged `OK`, which finishes the pending command
abbrev pub Succeeds : Machine → Machine → Type 0
Succeeds a b = (tag : Bytes) × (o : OutcomeValue) × Nexts a (Takes (Done tag status.Ok o)) b

-- The step from a to b is that of `next`: it took the event that is there, or none, or failed as the result says.
abbrev pub TakesNext : {A : Type 0} → Machine → Result A SessionError → Machine → Type 0
TakesNext a (Ok x) b = (event : Option Event) × AnswersNext a (Ok event) b
TakesNext a (Err e) b = AnswersNext a (Err e) b

-- the status that finished a command, if the event is that
abbrev pub status_of : EventValue → Option Status
status_of (Finished s o) = Some s
status_of other = None

abbrev pub finished_with : Option Event → Option Status
finished_with None = None
finished_with (Some e) = status_of (event_value e)
