-- A command as the list of the builder calls that made it, the newest first: the typed state that
-- they end in, the text so far, and the finished command.
use Rattle.std.specs.Prelude.{◌≡◌, ℕ, ◌<◌, ◌^◌, List, [], ◌∷◌, ◌++◌, codes, decimal, Option, None, Some}
use Rattle.std.specs.Option.{option_or}
use Rattle.imap_command.specs.Arguments.{quoted}
use Rattle.imap_command.specs.Words.{macro_word, attribute_word}
use Rattle.imap_command.specs.declared.command.Command.{Command}
use Rattle.imap_command.specs.declared.command.State.{State}
use Rattle.imap_command.specs.declared.command.State.TheVariants.{Authenticated, Selected}
use Rattle.imap_command.specs.declared.words.AttrMacro.{AttrMacro}
use Rattle.imap_command.specs.declared.words.Attribute.{Attribute}

-- the builder calls, by their names, with their arguments
pub data Call : Type 0 where
  check : Call
  close : Call
  list : List ℕ → List ℕ → Call
  login : List ℕ → List ℕ → Call
  select : List ℕ → Call
  examine : List ℕ → Call
  cond_store : Call
  fetch : Call
  uid_fetch : Call
  num : ℕ → Call
  range : ℕ → ℕ → Call
  range_from : ℕ → Call
  attr_macro : AttrMacro → Call
  attr : Attribute → Call
  changed_since : ℕ → Call

-- a call's numbers fit the types of its parameters
abbrev pub InRange : Call → Type 0
InRange (num n) = n < 2 ^ 32
InRange (range first last) = (first < 2 ^ 32) × (last < 2 ^ 32)
InRange (range_from first) = first < 2 ^ 32
InRange (changed_since n) = n < 2 ^ 64
InRange call = Unit {0}

-- The typed states: before the first call, the markers' names, after a call that gives a `Command`
-- at once, and after a call that the types refuse.
pub data Stage : Type 0 where
  start : Stage
  no_params : Stage
  params : Stage
  empty : Stage
  messages : Stage
  attributes : Stage
  modifiers : Stage
  whole : Stage
  refused : Stage

abbrev pub after : Stage → Call → Stage
after start check = whole
after start close = whole
after start (list reference glob) = whole
after start (login user_name password) = whole
after start (select mailbox) = no_params
after start (examine mailbox) = no_params
after no_params cond_store = params
after start fetch = empty
after start uid_fetch = empty
after empty (num n) = messages
after empty (range first last) = messages
after empty (range_from first) = messages
after messages (num n) = messages
after messages (range first last) = messages
after messages (range_from first) = messages
after messages (attr_macro group) = modifiers
after messages (attr attribute) = attributes
after attributes (attr attribute) = attributes
after attributes (changed_since n) = modifiers
after modifiers (changed_since n) = modifiers
after state call = refused

-- the typed state that calls end in
abbrev pub stage : List Call → Stage
stage [] = start
stage (call ∷ before) = after (stage before) call

-- the typed states of which there is a `Command`
abbrev pub Ends : Stage → Type 0
Ends no_params = Unit {0}
Ends params = Unit {0}
Ends attributes = Unit {0}
Ends modifiers = Unit {0}
Ends whole = Unit {0}
Ends state = ⊥

-- what stands before a further message
abbrev pub comma : Stage → List ℕ
comma messages = codes ","
comma state = []

-- what stands before an attribute
abbrev pub opening : Stage → List ℕ
opening attributes = codes " "
opening state = codes " ("

-- the end of a list that is still open
abbrev pub closing : Stage → List ℕ
closing params = codes ")"
closing attributes = codes ")"
closing state = []

-- what a call adds to a command in a typed state (RFC 3501, section 6; `CONDSTORE` and `CHANGEDSINCE`
-- of RFC 4551 sections 3.7 and 3.3.1)
abbrev pub added : Stage → Call → List ℕ
added state check = codes "CHECK"
added state close = codes "CLOSE"
added state (list reference glob) =
    codes "LIST " ++ (quoted reference ++ (codes " " ++ quoted glob))
added state (login user_name password) =
    codes "LOGIN " ++ (quoted user_name ++ (codes " " ++ quoted password))
added state (select mailbox) = codes "SELECT " ++ quoted mailbox
added state (examine mailbox) = codes "EXAMINE " ++ quoted mailbox
added state cond_store = codes " (CONDSTORE"
added state fetch = codes "FETCH "
added state uid_fetch = codes "UID FETCH "
added state (num n) = comma state ++ decimal n
added state (range first last) = comma state ++ (decimal first ++ (codes ":" ++ decimal last))
added state (range_from first) = comma state ++ (decimal first ++ codes ":*")
added state (attr_macro group) = codes " " ++ macro_word group
added state (attr attribute) = opening state ++ attribute_word attribute
added state (changed_since n) =
    closing state ++ (codes " (CHANGEDSINCE " ++ (decimal n ++ codes ")"))

-- the text so far
abbrev pub begun : List Call → List ℕ
begun [] = []
begun (call ∷ before) = begun before ++ added (stage before) call

-- the state that a call leads to, if it leads to one (RFC 3501 sections 6.2.3, 6.3.1, 6.3.2 and 6.4.2)
abbrev pub leads_to : Call → Option State
leads_to close = Some Authenticated
leads_to (login user_name password) = Some Authenticated
leads_to (select mailbox) = Some Selected
leads_to (examine mailbox) = Some Selected
leads_to call = None

-- the state that the command leads to
abbrev pub next_state : List Call → Option State
next_state [] = None
next_state (call ∷ before) = option_or (leads_to call) (next_state before)

-- the finished command
pub record Told : Type 0 where
  pub text : List ℕ
  pub next_state : Option State

abbrev pub told : List Call → Told
told calls = record { text = begun calls ++ closing (stage calls); next_state = next_state calls }

-- the calls may end here, and the command holds what they tell: their text and next state
pub record Holds (calls : List Call) (command : Command) : Type 0 where
  pub ends : Ends (stage calls)
  pub text : command.args.items ≡ (told calls).text
  pub next_state : command.next_state ≡ (told calls).next_state

-- The call may come first and leads to the typed state next, and new is its text.
pub record Begins (call : Call) (next : Stage) (new : List ℕ) : Type 0 where
  pub leads : after start call ≡ next
  pub text : new ≡ begun (call ∷ [])

-- The call's numbers are in range, and it leads from this state to the typed state next. And if old is
-- the text of calls that end in this state, new is the text of these and one call more.
pub record Adds (state : Stage) (call : Call) (next : Stage) (old new : List ℕ) : Type 0 where
  pub in_range : InRange call
  pub leads : after state call ≡ next
  pub text :
      (calls : List Call) → stage calls ≡ state → old ≡ begun calls → new ≡ begun (call ∷ calls)

-- If old is the text of calls that end in this state, the command holds what these calls tell.
abbrev pub Finishes : Stage → List ℕ → Command → Type 0
Finishes state old command =
    (calls : List Call) → stage calls ≡ state → old ≡ begun calls → Holds calls command
