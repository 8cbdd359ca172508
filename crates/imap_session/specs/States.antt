-- The state of a connection (RFC 3501, section 3), by the commands that were accepted and the responses that were
-- taken; lines that were skipped don't change it. Nothing here reads bytes or knows tags.
use Rattle.std.specs.Prelude.{Bool, true, false, List, [], ◌∷◌, reverse, Option, None, Some}
use Rattle.imap_grammar.specs.Text.{Bytes}
use Rattle.imap_command.specs.declared.command.State.{State}
use Rattle.imap_command.specs.declared.command.State.TheVariants.{NotAuthenticated, Authenticated, Selected, Logout}
use Rattle.imap_shared.specs.declared.types.statuses.Status.{Status}
use Rattle.imap_shared.specs.declared.types.statuses.Status.TheVariants as status
use Rattle.imap_proto.specs.Responses.{ResponseValue, Done, Data}

-- why no more responses are taken: no response begins so, or a line has a tag that no pending command has
pub data Stop : Type 0 where
  Denied : Stop
  StrangeTag : Stop

-- A command was accepted, which leads to this state, if it leads to one; or a response was taken; or a line was
-- skipped, for which no more responses were taken.
pub data Happening : Type 0 where
  Accepted : Option State → Happening
  Took : ResponseValue → Happening
  Skipped : Stop → Bytes → Happening

-- ---- one response

-- of a command that the server finished with `OK`: the state that it leads to, if it leads to one
abbrev pub succeeded : Option State → State → State
succeeded (Some next) state = next
succeeded None state = state

-- Of one that failed: a SELECT or EXAMINE that fails leaves no mailbox selected (RFC 3501, section 6.3.1).
abbrev pub failed : Option State → State → State
failed (Some Selected) Selected = Authenticated
failed next state = state

abbrev pub finished : Status → Option State → State → State
finished status.Ok next state = succeeded next state
finished other next state = failed next state

-- `BYE`: the server closes the connection (RFC 3501, section 7.1.5). `PREAUTH`: it knows the client already (section
-- 7.1.4), which only a greeting tells, the first response of all.
abbrev pub told : Status → Bool → State → State
told status.Bye first state = Logout
told status.PreAuth true state = Authenticated
told other first state = state

-- while the connection isn't closed
abbrev pub moved_on : ResponseValue → Bool → Option State → State → State
moved_on (Done tag status o) first next state = finished status next state
moved_on (Data status o) first next state = told status first state
moved_on other first next state = state

-- Logout is final
abbrev pub unless_closed : State → State → State
unless_closed Logout moved = Logout
unless_closed state moved = moved

-- The state behind a response: whether it is the first one, which state the command leads to that may be finished, and
-- the state before are known.
abbrev pub moved : ResponseValue → Bool → Option State → State → State
moved v first next state = unless_closed state (moved_on v first next state)

-- ---- all that happened, the newest in front

abbrev pub is_first : List Happening → Bool
is_first [] = true
is_first (Accepted next ∷ before) = is_first before
is_first (Took v ∷ before) = false
is_first (Skipped why line ∷ before) = is_first before

-- the state that the newest command leads to
abbrev pub led_to : List Happening → Option State
led_to [] = None
led_to (Accepted next ∷ before) = next
led_to (Took v ∷ before) = led_to before
led_to (Skipped why line ∷ before) = led_to before

abbrev pub state_behind : List Happening → State
state_behind [] = NotAuthenticated
state_behind (Accepted next ∷ before) = state_behind before
state_behind (Took v ∷ before) = moved v (is_first before) (led_to before) (state_behind before)
state_behind (Skipped why line ∷ before) = state_behind before

-- ---- in order

-- the state after this happened
abbrev pub after : List Happening → State
after happened = state_behind (reverse happened)

-- the responses that were taken
abbrev pub taken : List Happening → List ResponseValue
taken [] = []
taken (Accepted next ∷ more) = taken more
taken (Took v ∷ more) = v ∷ taken more
taken (Skipped why line ∷ more) = taken more

-- one of what happened, whatever it says
pub data Mark : Type 0 where
  Command : Option State → Mark
  Response : Mark
  Line : Mark

-- which commands were accepted between which responses and which skipped lines, whatever these say
abbrev pub outline : List Happening → List Mark
outline [] = []
outline (Accepted next ∷ more) = Command next ∷ outline more
outline (Took v ∷ more) = Response ∷ outline more
outline (Skipped why line ∷ more) = Line ∷ outline more
