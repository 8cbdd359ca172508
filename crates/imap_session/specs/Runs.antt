-- Runs of the machine: lists of steps, and the laws of all of them.
use Rattle.std.specs.Prelude.{◌≡◌, List, [], ◌∷◌, ◌++◌, Option}
use Rattle.imap_grammar.specs.Meaning.{Denies}
use Rattle.imap_grammar.specs.Rule.{meaning}
use Rattle.imap_grammar.specs.Text.{Bytes}
use Rattle.imap_command.specs.declared.command.State.{State}
use Rattle.imap_proto.specs.declared.stream.End.{End}
use Rattle.imap_proto.specs.Lines.{response}
use Rattle.imap_proto.specs.LogicalLines.{logical_line}
use Rattle.imap_proto.specs.Responses.{ResponseValue, Done}
use Rattle.imap_proto.specs.Skipping.{Item, SplitsPast}
use Rattle.imap_proto.specs.Skipping as item
use Rattle.imap_proto.specs.Streams.{Splits}
use Rattle.imap_session.specs.Machine.{Machine, new, Sending, Sent, Sends, fed, Taking, Takes, Nexts, Skipping, Skips, SkipsLine}
use Rattle.imap_session.specs.States.{Stop, Denied, StrangeTag, Happening, Accepted, Took, Skipped, after, taken, outline}

-- a call with what it was given, and what it answered
pub data Step : Type 0 where
  Send : Bytes → Option State → Sending → Step
  Feed : Bytes → Step
  Next : Taking → Step
  Skip : Skipping → Step

abbrev pub Goes : Machine → Step → Machine → Type 0
Goes a (Send args next answer) b = Sends a args next answer b
Goes a (Feed piece) b = b ≡ fed piece a
Goes a (Next answer) b = Nexts a answer b
Goes a (Skip answer) b = SkipsLine a answer b

-- from one machine to another, step by step
abbrev pub Runs : Machine → List Step → Machine → Type 0
Runs a [] b = a ≡ b
Runs a (step ∷ steps) b = (mid : Machine) × Goes a step mid × Runs mid steps b

-- all bytes that were fed
abbrev pub all_fed : List Step → Bytes
all_fed [] = []
all_fed (Feed piece ∷ steps) = piece ++ all_fed steps
all_fed (other ∷ steps) = all_fed steps

-- the commands that were accepted, the responses that were taken and the lines that were skipped, in their order
abbrev pub happened : List Step → List Happening
happened [] = []
happened (Send args next (Sent line) ∷ steps) = Accepted next ∷ happened steps
happened (Next (Takes v) ∷ steps) = Took v ∷ happened steps
happened (Skip (Skips why line) ∷ steps) = Skipped why line ∷ happened steps
happened (other ∷ steps) = happened steps

-- ---- what stands in the bytes

abbrev pub IsTagged : ResponseValue → Type 0
IsTagged (Done t status o) = Unit {0}
IsTagged other = ⊥

-- why the bytes in front stop a session: no response begins so, or a tagged line stands there
abbrev pub IsStopping : Bytes → Stop → Type 0
IsStopping m Denied = Denies (meaning response) m
IsStopping m StrangeTag =
    (v : ResponseValue) × (rest : Bytes) × (meaning response).yields m v rest × IsTagged v

-- the responses that were taken and the lines that were skipped stand at the front of m, one behind another, and the
-- rest is behind them
abbrev pub Passes : Bytes → List Happening → Bytes → Type 0
Passes m [] rest = m ≡ rest
Passes m (Accepted next ∷ more) rest = Passes m more rest
Passes m (Took v ∷ more) rest =
    (mid : Bytes) × (meaning response).yields m v mid × Passes mid more rest
Passes m (Skipped why line ∷ more) rest =
    (mid : Bytes)
    × IsStopping m why
    × (meaning logical_line).yields m line mid
    × Passes mid more rest

-- no line was skipped
abbrev pub SkipsNone : List Happening → Type 0
SkipsNone [] = Unit {0}
SkipsNone (Skipped why line ∷ more) = ⊥
SkipsNone (other ∷ more) = SkipsNone more

-- only lines that are denied were skipped, and none for its tag
abbrev pub SkipsDenied : List Happening → Type 0
SkipsDenied [] = Unit {0}
SkipsDenied (Skipped StrangeTag line ∷ more) = ⊥
SkipsDenied (other ∷ more) = SkipsDenied more

-- the responses and the skipped lines
abbrev pub passed : List Happening → List Item
passed [] = []
passed (Accepted next ∷ more) = passed more
passed (Took v ∷ more) = item.Taken v ∷ passed more
passed (Skipped why line ∷ more) = item.Skipped line ∷ passed more

-- ---- laws

-- what was taken and what was skipped, and then the held bytes, are all bytes that were fed
abbrev pub AllIsPassed : Type 0
AllIsPassed =
    (steps : List Step) (b : Machine) →
    Runs new steps b →
    Passes (all_fed steps) (happened steps) b.held

-- Where no line was skipped: what was taken, and then what stands in the held bytes, is what stands in all bytes that
-- were fed, with the same rest and the same end. So no response is skipped, and none is lost.
abbrev pub NoneIsLost : Type 0
NoneIsLost =
    (steps : List Step) (b : Machine) (vs : List ResponseValue) (left : Bytes) (end : End) →
    Runs new steps b →
    SkipsNone (happened steps) →
    Splits b.held vs left end →
    Splits (all_fed steps) (taken (happened steps) ++ vs) left end

-- Where only denied lines were skipped: what was taken and skipped, and then the outcome of the held bytes, is the
-- outcome of all bytes that were fed. So no response is lost beside these lines.
abbrev pub OutcomeFollows : Type 0
OutcomeFollows =
    (steps : List Step) (b : Machine) (items : List Item) (left : Bytes) (end : End) →
    Runs new steps b →
    SkipsDenied (happened steps) →
    SplitsPast b.held items left end →
    SplitsPast (all_fed steps) (passed (happened steps) ++ items) left end

-- the state is that of what happened, however the bytes were cut
abbrev pub StateFollows : Type 0
StateFollows = (steps : List Step) (b : Machine) → Runs new steps b → b.state ≡ after (happened steps)

-- In two runs over the same bytes, cut otherwise, with the same commands accepted between the same responses and
-- skipped lines, the same happened: they have taken the same responses and skipped the same lines. They hold the same
-- bytes, and are in the same state.
abbrev pub CuttingsAlike : Type 0
CuttingsAlike =
    (steps others : List Step) (b c : Machine) →
    Runs new steps b →
    Runs new others c →
    all_fed steps ≡ all_fed others →
    outline (happened steps) ≡ outline (happened others) →
    (happened steps ≡ happened others) × (b.held ≡ c.held) × (b.state ≡ c.state)
