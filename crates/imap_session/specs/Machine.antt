-- The machine that a session is: what it knows, and its steps.
use Rattle.std.specs.Prelude.{◌≡◌, ◌⊎◌, ℕ, ◌+◌, Bool, true, false, not, ◌==◌, [], ◌++◌, Option, None, Some}
use Rattle.imap_grammar.specs.Meaning.{Denies}
use Rattle.imap_grammar.specs.Rule.{meaning}
use Rattle.imap_grammar.specs.Text.{Bytes}
use Rattle.imap_command.specs.declared.command.State.{State}
use Rattle.imap_command.specs.declared.command.State.TheVariants.{NotAuthenticated}
use Rattle.imap_proto.specs.Lines.{response}
use Rattle.imap_proto.specs.LogicalLines.{logical_line}
use Rattle.imap_proto.specs.Responses.{ResponseValue, Done}
use Rattle.imap_proto.specs.Streams.{Waiting}
use Rattle.imap_session.specs.States.{Stop, Denied, StrangeTag, moved}
use Rattle.imap_session.specs.Tags.{tag, last_number, line}

-- a command that the server has not finished: its tag, and the state that it leads to, if it leads to one
pub record Pending : Type 0 where
  pub tag : Bytes
  pub next_state : Option State

pub record Machine : Type 0 where
  pub state : State
  pub pending : Option Pending
  -- the number of the last tag, 0 where none was given
  pub last : ℕ
  -- whether a response was taken
  pub begun : Bool
  pub stopped : Option Stop
  -- the bytes that were fed and not yet taken
  pub held : Bytes

abbrev pub new : Machine
new =
    record {
      state = NotAuthenticated;
      pending = None;
      last = 0;
      begun = false;
      stopped = None;
      held = [];
    }

-- ---- send

-- what is answered: the line of the command, or why there is none
pub data Sending : Type 0 where
  Sent : Bytes → Sending
  Busy : Sending
  Exhausted : Sending

abbrev pub judged : Option Pending → Bool → Bytes → Sending
judged (Some p) exhausted line = Busy
judged None true line = Exhausted
judged None false line = Sent line

-- the next tag goes to the command with these args, unless one is pending or the last tag was given
abbrev pub sending : Machine → Bytes → Sending
sending a args = judged a.pending (a.last == last_number) (line (tag (a.last + 1)) args)

abbrev pub after_sending : Sending → Option State → Machine → Machine
after_sending (Sent line) next a =
    record a {
      pending = Some (record { tag = tag (a.last + 1); next_state = next });
      last = a.last + 1;
    }
after_sending other next a = a

-- with these args and that next state it is answered so, and this is the machine then
abbrev pub Sends : Machine → Bytes → Option State → Sending → Machine → Type 0
Sends a args next answer b = (answer ≡ sending a args) × (b ≡ after_sending answer next a)

-- ---- feed

abbrev pub fed : Bytes → Machine → Machine
fed piece a = record a { held = a.held ++ piece }

-- ---- next

-- what is answered: the response that was taken, or that more bytes are needed, or why none is taken
pub data Taking : Type 0 where
  Takes : ResponseValue → Taking
  Waits : Taking
  Stops : Stop → Taking

abbrev pub HasTag : Option Pending → Bytes → Type 0
HasTag None t = ⊥
HasTag (Some p) t = t ≡ p.tag

-- a tagged line has the tag of the pending command
abbrev pub IsExpected : Option Pending → ResponseValue → Type 0
IsExpected pending (Done t status o) = HasTag pending t
IsExpected pending other = Unit {0}

-- it ends the command
abbrev pub left_pending : ResponseValue → Option Pending → Option Pending
left_pending (Done t status o) pending = None
left_pending other pending = pending

abbrev pub leads_to : Option Pending → Option State
leads_to None = None
leads_to (Some p) = p.next_state

-- behind a response, where this is left of the bytes
abbrev pub took : ResponseValue → Bytes → Machine → Machine
took v left a =
    record a {
      state = moved v (not a.begun) (leads_to a.pending) a.state;
      pending = left_pending v a.pending;
      begun = true;
      held = left;
    }

-- why the bytes in front stop it
abbrev pub StopsFor : Machine → Stop → Type 0
StopsFor a Denied = Denies (meaning response) a.held
StopsFor a StrangeTag =
    (v : ResponseValue)
    × (left : Bytes)
    × (meaning response).yields a.held v left
    × (¬ (IsExpected a.pending v))

abbrev pub stopped_for : Stop → Machine → Machine
stopped_for why a = record a { stopped = Some why }

-- It is answered so, and this is the machine then: the response at the front is taken, or there is none yet, or it
-- stops, and what stopped it stays where it is. Once stopped, it stays so.
abbrev pub Nexts : Machine → Taking → Machine → Type 0
Nexts a (Takes v) b =
    (left : Bytes)
    × (a.stopped ≡ None)
    × (meaning response).yields a.held v left
    × IsExpected a.pending v
    × (b ≡ took v left a)
Nexts a Waits b = (a.stopped ≡ None) × Waiting a.held × (b ≡ a)
Nexts a (Stops why) b =
    ((a.stopped ≡ Some why) × (b ≡ a))
    ⊎ ((a.stopped ≡ None) × StopsFor a why × (b ≡ stopped_for why a))

-- ---- skip_line

-- what is answered: the line that was skipped, and why it had stopped there; or that none was
pub data Skipping : Type 0 where
  Skips : Stop → Bytes → Skipping
  Keeps : Skipping

-- behind a line, where this is left of the bytes
abbrev pub went_on : Bytes → Machine → Machine
went_on left a = record a { stopped = None; held = left }

-- It is answered so, and this is the machine then: where it has stopped, the logical line at the front is skipped, and
-- it goes on behind that. Where it hasn't stopped, or the line isn't whole, it is as it was.
abbrev pub SkipsLine : Machine → Skipping → Machine → Type 0
SkipsLine a (Skips why line) b =
    (left : Bytes)
    × (a.stopped ≡ Some why)
    × (meaning logical_line).yields a.held line left
    × (b ≡ went_on left a)
SkipsLine a Keeps b =
    ((a.stopped ≡ None)
    ⊎ ((line left : Bytes) → ¬ ((meaning logical_line).yields a.held line left)))
    × (b ≡ a)
