-- A command that has no builder of its own, as its name and the calls that added its arguments, the newest first: the
-- typed state that they end in, and the text so far (RFC 3501, section 9: command).
use Rattle.std.specs.Prelude.{◌≡◌, Bool, true, false, if◌then◌else◌, ℕ, ◌<◌, ◌^◌, List, [], ◌∷◌, ◌++◌, codes, decimal, map, Option, None}
use Rattle.imap_command.specs.Arguments.{refusal, quoted}
use Rattle.imap_command.specs.OtherWords.{word_refusal, first_refusal, bracketed}
use Rattle.imap_command.specs.Sections.{Section, SectionInRange, section_refusal, section_text}
use Rattle.imap_command.specs.declared.errors.BuildError.{BuildError}

-- the calls that add arguments, by their names
pub data Argument : Type 0 where
  word : List ℕ → Argument
  string : List ℕ → Argument
  number : ℕ → Argument
  num : ℕ → Argument
  range : ℕ → ℕ → Argument
  range_from : ℕ → Argument
  list : List (List ℕ) → Argument
  strings : List (List ℕ) → Argument
  section : Section → Argument
  literal : ℕ → Argument

-- a call's numbers fit the types of its parameters
abbrev pub InRange : Argument → Type 0
InRange (number n) = n < 2 ^ 64
InRange (num n) = n < 2 ^ 32
InRange (range first last) = (first < 2 ^ 32) × (last < 2 ^ 32)
InRange (range_from first) = first < 2 ^ 32
InRange (section asked) = SectionInRange asked
InRange (literal n) = n < 2 ^ 32
InRange argument = Unit {0}

-- why a call is refused, if it is
abbrev pub argument_refusal : Argument → Option BuildError
argument_refusal (word text) = word_refusal text
argument_refusal (string text) = refusal text
argument_refusal (list words) = first_refusal word_refusal words
argument_refusal (strings texts) = first_refusal refusal texts
argument_refusal (section asked) = section_refusal asked
argument_refusal argument = None

-- The typed states: the markers' names, and after a call that the types refuse. A set is open in `numbers`.
pub data Stage : Type 0 where
  arguments : Stage
  numbers : Stage
  announced : Stage
  refused : Stage

abbrev pub after : Stage → Argument → Stage
after announced argument = refused
after refused argument = refused
after state (num n) = numbers
after state (range first last) = numbers
after state (range_from first) = numbers
after state (literal n) = announced
after state argument = arguments

-- the typed state that calls end in
abbrev pub stage : List Argument → Stage
stage [] = arguments
stage (argument ∷ before) = after (stage before) argument

-- the typed states to which arguments are added
abbrev pub Open : Stage → Type 0
Open arguments = Unit {0}
Open numbers = Unit {0}
Open state = ⊥

-- whether an argument goes on with the set that is open (RFC 3501, section 9: sequence-set)
abbrev pub goes_on : Stage → Argument → Bool
goes_on numbers (num n) = true
goes_on numbers (range first last) = true
goes_on numbers (range_from first) = true
goes_on state argument = false

-- what stands before an argument: a space, but a comma within a set
abbrev pub separator : Stage → Argument → List ℕ
separator state argument = if goes_on state argument then codes "," else codes " "

-- an argument's text; `literal` writes what announces the bytes of a literal (RFC 3501, section 4.3)
abbrev pub argument_text : Argument → List ℕ
argument_text (word text) = text
argument_text (string text) = quoted text
argument_text (number n) = decimal n
argument_text (num n) = decimal n
argument_text (range first last) = decimal first ++ (codes ":" ++ decimal last)
argument_text (range_from first) = decimal first ++ codes ":*"
argument_text (list words) = bracketed words
argument_text (strings texts) = bracketed (map quoted texts)
argument_text (section asked) = section_text asked
argument_text (literal n) = codes "{" ++ (decimal n ++ codes "}")

-- the text so far
abbrev pub begun : List ℕ → List Argument → List ℕ
begun name [] = name
begun name (argument ∷ before) =
    begun name before ++ (separator (stage before) argument ++ argument_text argument)

-- The argument's numbers are in range, and it leads from this state to the typed state next. And if old is the text of
-- a name and arguments that end in this state, new is the text of these and one argument more.
pub record Adds (state : Stage) (argument : Argument) (next : Stage) (old new : List ℕ) : Type 0 where
  pub in_range : InRange argument
  pub leads : after state argument ≡ next
  pub text :
      (name : List ℕ) (before : List Argument) → stage before ≡ state → old ≡ begun name before
      → new ≡ begun name (argument ∷ before)

-- the same from each typed state to which arguments are added
abbrev pub AddsTo : Argument → Stage → List ℕ → List ℕ → Type 0
AddsTo argument next old new = (state : Stage) → Open state → Adds state argument next old new

-- the argument is not refused
abbrev pub Unrefused : Argument → Type 0
Unrefused argument = argument_refusal argument ≡ None
