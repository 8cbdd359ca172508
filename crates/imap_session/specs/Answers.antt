-- What the calls of a session answer, by the machine.
use Rattle.std.specs.Prelude.{◌≡◌, ◌≢◌, ℕ, Bool, true, false, not, ◌==◌, ◌||◌, List, length, Option, None, Some, Result, Ok, Err}
use Rattle.std.specs.declared.alloc.Global.{Global}
use Rattle.std.specs.declared.vec.Vec.{Vec}
use Rattle.imap_shared.specs.declared.types.statuses.Status.{Status}
use Rattle.imap_command.specs.declared.command.Command.{Command}
use Rattle.imap_grammar.specs.Ascii.{asterisk, plus}
use Rattle.imap_grammar.specs.Rule.{meaning}
use Rattle.imap_grammar.specs.Text.{Bytes}
use Rattle.imap_proto.specs.declared.response.Response.{Response as Given}
use Rattle.imap_proto.specs.declared.stream.FeedError.{FeedError}
use Rattle.imap_proto.specs.declared.stream.FeedError.TheVariants as fault
use Rattle.imap_proto.specs.Feeds.{FeedMayWant}
use Rattle.imap_proto.specs.Lines.{response}
use Rattle.imap_proto.specs.Owned.{owned_response}
use Rattle.imap_proto.specs.Responses.{OutcomeValue, ResponseValue, Done, outcome_value, response_value, lent_outcome, lent_response}
use Rattle.imap_session.specs.declared.event.Event.{Event}
use Rattle.imap_session.specs.declared.event.Event.TheVariants as variant
use Rattle.imap_session.specs.declared.errors.SendError.{SendError}
use Rattle.imap_session.specs.declared.errors.SendError.TheVariants as refusal
use Rattle.imap_session.specs.declared.errors.SessionError.{SessionError}
use Rattle.imap_session.specs.declared.errors.SessionError.TheVariants as error
use Rattle.imap_session.specs.Machine.{Machine, Pending, Sent, Busy, Exhausted, Sends, IsExpected, took, stopped_for, Takes, Waits, Stops, Nexts, Skips, Keeps, SkipsLine}
use Rattle.imap_session.specs.States.{Stop, Denied, StrangeTag}
use Rattle.imap_session.specs.Tags.{last_number}

-- a response, or how the pending command was finished
pub data EventValue : Type 0 where
  Response : ResponseValue → EventValue
  Finished : Status → OutcomeValue → EventValue

abbrev pub event_value : Event → EventValue
event_value (variant.Response r) = Response (response_value r)
event_value (variant.Finished status o) = Finished status (outcome_value o)

-- the event that a response is
abbrev pub event_of : ResponseValue → EventValue
event_of (Done tag status o) = Finished status o
event_of other = Response other

-- with all texts borrowed: two events say the same where these are equal
abbrev pub lent_event : EventValue → EventValue
lent_event (Response r) = Response (lent_response r)
lent_event (Finished status o) = Finished status (lent_outcome o)

-- `send` answers as the machine, unless memory ran out
abbrev pub AnswersSend : Machine → Command → Result (Vec ℕ Global) SendError → Machine → Type 0
AnswersSend a c (Ok line) b = Sends a c.args.items c.next_state (Sent line.items) b
AnswersSend a c (Err refusal.Busy) b = Sends a c.args.items c.next_state Busy b
AnswersSend a c (Err refusal.Exhausted) b = Sends a c.args.items c.next_state Exhausted b
AnswersSend a c (Err refusal.OutOfMemory) b = Unit {0}

-- no command is pending, and a tag is left
abbrev pub IsReady : Machine → Type 0
IsReady a = (a.pending ≡ None) × (a.last ≢ last_number)

-- `next` answers as the machine, the texts of the response owned, unless memory ran out
abbrev pub AnswersNext : Machine → Result (Option Event) SessionError → Machine → Type 0
AnswersNext a (Ok (Some e)) b =
    (v : ResponseValue) × Nexts a (Takes v) b × (event_value e ≡ event_of (owned_response v))
AnswersNext a (Ok None) b = Nexts a Waits b
AnswersNext a (Err error.Denied) b = Nexts a (Stops Denied) b
AnswersNext a (Err error.StrangeTag) b = Nexts a (Stops StrangeTag) b
AnswersNext a (Err error.OutOfMemory) b = Unit {0}

-- `skip_line` answers as the machine, with the length of the line
abbrev pub AnswersSkip : Machine → Option ℕ → Machine → Type 0
AnswersSkip a (Some n) b =
    (why : Stop) × (line : Bytes) × SkipsLine a (Skips why line) b × (n ≡ length line)
AnswersSkip a None b = SkipsLine a Keeps b

-- the error that says why it stopped
abbrev pub Stopped : Stop → SessionError → Type 0
Stopped Denied e = e ≡ error.Denied
Stopped StrangeTag e = e ≡ error.StrangeTag

-- what is answered where a feed gave this of what was held, and the machine then
abbrev pub Settles : Machine → Result (Option Given) FeedError → Result (Option Event) SessionError → Machine → Type 0
Settles a (Ok (Some r)) answer b =
    (e : Event)
    × (answer ≡ Ok (Some e))
    × (event_value e ≡ event_of (response_value r))
    × (b ≡ took (response_value r) a.held a)
Settles a (Ok None) answer b = (answer ≡ Ok None) × (b ≡ a)
Settles a (Err fault.Denied) answer b = (answer ≡ Err error.Denied) × (b ≡ stopped_for Denied a)
Settles a (Err fault.OutOfMemory) answer b = (answer ≡ Err error.OutOfMemory) × (b ≡ a)

-- `*` begins an untagged line, and `+` a continuation (RFC 3501, section 9: response-data, continue-req)
abbrev pub may_begin_tag : ℕ → Bool
may_begin_tag b = not (b == asterisk || b == plus)

-- whether a line stands in front that is not expected
abbrev pub JudgesFront : Option Pending → Bytes → Bool → Type 0
JudgesFront pending held true =
    (v : ResponseValue)
    × (left : Bytes)
    × (meaning response).yields held v left
    × (¬ (IsExpected pending v))
JudgesFront pending held false =
    (v : ResponseValue) (left : Bytes) → (meaning response).yields held v left → IsExpected pending v

-- where memory may be wanted: it has not stopped, and to read or own what stands in front may take some
abbrev pub NextMayWant : Machine → Type 0
NextMayWant a = (a.stopped ≡ None) × FeedMayWant a.held
