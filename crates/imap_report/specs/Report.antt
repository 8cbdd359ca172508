-- The report of some bytes: a line for each thing that stands at their front, and a last line on the rest.
use Rattle.std.specs.Prelude.{◌≡◌, ◌≢◌, ℕ, ◌-◌, ◌≤◌, List, [], ◌∷◌, ◌++◌, length, Option}
use Rattle.std.specs.Io.KnownBytes.{Appends, Consumes, IsAtEnd}
use Rattle.std.specs.String.{string_bytes}
use Rattle.imap_grammar.specs.Ascii.{line_feed}
use Rattle.imap_grammar.specs.Meaning.{Denies}
use Rattle.imap_grammar.specs.Rule.{Rule, meaning, gives}
use Rattle.imap_grammar.specs.Text.{Bytes}
use Rattle.imap_proto.specs.declared.stream.End.{End as Why}
use Rattle.imap_proto.specs.Lines.{response}
use Rattle.imap_proto.specs.Skipping.{Item, Taken, item}
use Rattle.imap_proto.specs.Streams.{EndsAs, Waiting as Waits}
use Rattle.imap_report.specs.declared.outcome.Finish.{Finish}
use Rattle.imap_report.specs.declared.outcome.Finish.TheVariants.{End, Waiting, Denied}
use Rattle.imap_report.specs.declared.telling.Turn.{Turn}
use Rattle.imap_report.specs.declared.telling.Turn.TheVariants.{Line, Stop}
use Rattle.imap_report.specs.declared.wording.OnDenied.{OnDenied}
use Rattle.imap_report.specs.declared.wording.OnDenied.TheVariants as on_denied
use Rattle.imap_report.specs.Devices.{AppendsFront}

-- How a report is worded: what is done where no response begins with what is left, and the text of each line.
pub record Words : Type 0 where
  pub on_denied : OnDenied
  -- of a response, or of a line that was skipped, which has so many bytes
  pub of_item : Item → ℕ → Bytes
  -- of the end, where so many bytes are left
  pub of_end : Finish → ℕ → Bytes

-- what has a line: a response; and where denied lines are skipped, such a line
abbrev pub items : OnDenied → Rule Item
items on_denied.Stop = gives Taken response
items on_denied.Skip = item

-- no such thing stands at the front
abbrev pub NoItem : OnDenied → Bytes → Type 0
NoItem d m = (x : Item) (rest : Bytes) → ¬ ((meaning (items d)).yields m x rest)

-- a text and LF
abbrev pub line : Bytes → Bytes
line text = text ++ (line_feed ∷ [])

-- how a run finishes that has this left
abbrev pub FinishesAs : Bytes → Finish → Type 0
FinishesAs m End = m ≡ []
FinishesAs m Waiting = (m ≢ []) × Waits m
FinishesAs m Denied = Denies (meaning response) m

-- the text is the report of m in these words, and the last line tells this finish
pub data IsReport (w : Words) : Bytes → Bytes → Finish → Type 0 where
  next :
      (m : Bytes) (x : Item) (rest text : Bytes) (f : Finish) →
      (meaning (items w.on_denied)).yields m x rest → IsReport w rest text f →
      IsReport w m (line (w.of_item x (length m - length rest)) ++ text) f
  last :
      (m : Bytes) (f : Finish) → NoItem w.on_denied m → FinishesAs m f →
      IsReport w m (line (w.of_end f (length m))) f

-- The lines of what stands at the front of m were appended, and the rest is behind that: whatever comes behind m, the
-- report of the rest with that completes the report of all.
pub record Told (w : Words) (m rest : Bytes) (old new : Option Bytes) : Type 0 where
  pub text : Bytes
  pub completes :
      (more report : Bytes) (f : Finish) → IsReport w (rest ++ more) report f →
      IsReport w (m ++ more) (text ++ report) f
  pub written : Appends old new text
  pub within : length rest ≤ length m

-- one turn of a feed, by what it held and what it holds then: a line, or why there is none
abbrev pub IsTurn : Words → Bytes → Bytes → Turn → Type 0
IsTurn w held left (Line text) =
    (x : Item)
    × (meaning (items w.on_denied)).yields held x left
    × (string_bytes text ≡ line (w.of_item x (length held - length left)))
IsTurn w held left (Stop end) = EndsAs held end × NoItem w.on_denied held × (left ≡ held)

-- the whole report was appended
abbrev pub Writes : Words → Option Bytes → Option Bytes → Bytes → Finish → Type 0
Writes w old new m finish = (text : Bytes) × IsReport w m text finish × Appends old new text

-- a beginning of the report was appended, and not all of it
abbrev pub Begins : Words → Option Bytes → Option Bytes → Bytes → Type 0
Begins w old new m =
    (text : Bytes) × (finish : Finish) × IsReport w m text finish × AppendsFront old new text

-- what a source gave was read to its end, and its whole report was written
abbrev pub ReportsAll :
    Words → Option Bytes → Option Bytes → Option Bytes → Option Bytes → Finish → Type 0
ReportsAll w remaining left old new finish =
    (input : Bytes) × Consumes remaining left input × IsAtEnd left × Writes w old new input finish

-- a beginning of the report of what was read was written, and not all of it
abbrev pub ReportsSome :
    Words → Option Bytes → Option Bytes → Option Bytes → Option Bytes → Type 0
ReportsSome w remaining left old new =
    (input : Bytes) × Consumes remaining left input × Begins w old new input

-- at least so many bytes were read
abbrev pub ReadsAtLeast : ℕ → Option Bytes → Option Bytes → Type 0
ReadsAtLeast n remaining left =
    (input : Bytes) × Consumes remaining left input × (n ≤ length input)

-- n bytes are left that begin nothing with a line of its own, and this is why
pub record IsLeft (w : Words) (end : Why) (n : ℕ) (m : Bytes) : Type 0 where
  pub ends : EndsAs m end
  pub none : NoItem w.on_denied m
  pub size : length m ≡ n

-- what a source gave was read to its end, the lines of what stands in it were written, and n bytes are left
abbrev pub TellsItems :
    Words → Option Bytes → Option Bytes → Option Bytes → Option Bytes → Why → ℕ → Type 0
TellsItems w remaining left old new end n =
    (input : Bytes)
    × (rest : Bytes)
    × Consumes remaining left input
    × IsAtEnd left
    × Told w input rest old new
    × IsLeft w end n rest

-- ---- laws

-- all bytes have a report
abbrev pub SomeReport : Type 0
SomeReport = (w : Words) (m : Bytes) → (text : Bytes) × (f : Finish) × IsReport w m text f

-- and one only
abbrev pub OneReport : Type 0
OneReport =
    (w : Words) (m a b : Bytes) (f g : Finish) →
    IsReport w m a f →
    IsReport w m b g →
    (a ≡ b) × (f ≡ g)
