-- Commands, and arguments of them, that are put into a caller's buffer.
use Rattle.std.specs.Prelude.{◌≡◌, ◌≢◌, ◌==◌, ℕ, ◌⊎◌, Bool, List, [], ◌∷◌, map, if◌then◌else◌, Option, None, Some, option_map, Result, Ok, Err}
use Rattle.std.specs.Option.{option_or}
use Rattle.std.specs.Str.{is_utf8}
use Rattle.std.specs.declared.vec.Vec.{Vec}
use Rattle.std.specs.declared.alloc.Global.{Global}
use Rattle.imap_grammar.specs.Text.{Bytes}
use Rattle.imap_command.specs.Arguments.{refusal}
use Rattle.imap_command.specs.Calls.{Call, fetch, uid_fetch, range, range_from, attr, stage, attributes, begun, told}
use Rattle.imap_command.specs.declared.errors.BuildError.TheVariants.{CarriageReturn, LineFeed, Nul, BadName, BadWord, BadSection, OutOfMemory}
use Rattle.imap_command.specs.declared.words.Attribute.{Attribute}
use Rattle.imap_command.specs.declared.words.Attribute.TheVariants as attribute
use Rattle.imap_c.specs.declared.refusals.Refusal.{Refusal}
use Rattle.imap_c.specs.declared.refusals.Refusal.TheVariants.{NotUtf8, NoAttribute, Build}
use Rattle.imap_c.specs.declared.texts.TextAnswer.{TextAnswer}
use Rattle.imap_c.specs.Numbers.{out_of_memory}
use Rattle.imap_c.specs.Texts.{Puts, PutsNone}

abbrev pub refusal_number : Refusal → ℕ
refusal_number (Build CarriageReturn) = 5
refusal_number (Build LineFeed) = 6
refusal_number (Build Nul) = 7
refusal_number (Build BadName) = 8
refusal_number (Build BadWord) = 9
refusal_number (Build OutOfMemory) = out_of_memory
refusal_number NotUtf8 = 10
refusal_number NoAttribute = 11
refusal_number (Build BadSection) = 12

-- why bytes are no text, if they are none
abbrev pub text_refusal : Bytes → Option Refusal
text_refusal argument = if is_utf8 argument then None else Some NotUtf8

-- why an argument is refused, and two of them, if they are
abbrev pub argument_refusal : Bytes → Option Refusal
argument_refusal argument = option_or (text_refusal argument) (option_map Build (refusal argument))

abbrev pub arguments_refusal : Bytes → Bytes → Option Refusal
arguments_refusal first second =
    option_or (option_or (text_refusal first) (text_refusal second))
    (option_map Build (option_or (refusal first) (refusal second)))

-- what is answered by the refusal of the arguments: it, and where there is none the text, or want of memory
abbrev pub Makes : Option Refusal → Bytes → Result (Vec ℕ Global) Refusal → Type 0
Makes (Some refusal) text made = made ≡ Err refusal
Makes None text (Ok made) = made.items ≡ text
Makes None text (Err e) = e ≡ Build OutOfMemory

-- what was made was put into the buffer; or it is told why nothing was
abbrev pub PutsMade : Result (Vec ℕ Global) Refusal → Bytes → Bytes → TextAnswer → Type 0
PutsMade (Ok made) old new answer = Puts made.items old new answer
PutsMade (Err refusal) old new answer = PutsNone (refusal_number refusal) old new answer

-- the same as C is answered
abbrev pub Answers : Option Refusal → Bytes → Bytes → Bytes → TextAnswer → Type 0
Answers (Some refusal) text old new answer = PutsNone (refusal_number refusal) old new answer
Answers None text old new answer =
    Puts text old new answer ⊎ PutsNone out_of_memory old new answer

-- ---- FETCH

abbrev pub attribute_number : Attribute → ℕ
attribute_number attribute.Body = 1
attribute_number attribute.Envelope = 2
attribute_number attribute.Flags = 3
attribute_number attribute.InternalDate = 4
attribute_number attribute.ModSeq = 5
attribute_number attribute.Rfc822 = 6
attribute_number attribute.Rfc822Size = 7
attribute_number attribute.Rfc822Text = 8
attribute_number attribute.Uid = 9
attribute_number attribute.GmailLabels = 10
attribute_number attribute.GmailMsgId = 11
attribute_number attribute.GmailThrId = 12

-- the call that begins it
abbrev pub begun_by : Bool → Call
begun_by by_uid = if by_uid then uid_fetch else fetch

-- the call that names the messages: where last is 0, those from the first one on
abbrev pub messages_of : ℕ → ℕ → Call
messages_of first last = if last == 0 then range_from first else range first last

abbrev pub messages_called : Bool → ℕ → ℕ → List Call
messages_called by_uid first last = messages_of first last ∷ begun_by by_uid ∷ []

-- behind some calls those that ask for attributes, in this order
abbrev pub asking : List Attribute → List Call → List Call
asking [] calls = calls
asking (first ∷ others) calls = asking others (attr first ∷ calls)

-- the calls of a FETCH that asks for these attributes
abbrev pub fetch_called : Bool → ℕ → ℕ → List Attribute → List Call
fetch_called by_uid first last asked = asking asked (messages_called by_uid first last)

-- if old is the text of calls that end in an open list of attributes, new is that of these and of asking for more
abbrev pub Asks : List Attribute → Bytes → Bytes → Type 0
Asks asked old new =
    (calls : List Call) → stage calls ≡ attributes → old ≡ begun calls →
    (stage (asking asked calls) ≡ attributes) × (new ≡ begun (asking asked calls))

-- of further numbers: they are those of attributes that are asked for; or one of them is none's; or want of memory
abbrev pub AsksFor : List ℕ → Bytes → Result Bytes Refusal → Type 0
AsksFor numbers old (Ok new) =
    (asked : List Attribute) × (map attribute_number asked ≡ numbers) × Asks asked old new
AsksFor numbers old (Err e) =
    ((e ≡ NoAttribute) × ((asked : List Attribute) → map attribute_number asked ≢ numbers))
    ⊎ (e ≡ Build OutOfMemory)

-- the numbers are those of these attributes, at least of one
abbrev pub AreNumbers : List ℕ → List Attribute → Type 0
AreNumbers numbers asked = (map attribute_number asked ≡ numbers) × (asked ≢ [])

abbrev pub NameNoAttributes : List ℕ → Type 0
NameNoAttributes numbers = (asked : List Attribute) → ¬ (AreNumbers numbers asked)

-- what is answered of a FETCH: its text; that the numbers name no attributes; or want of memory
abbrev pub MakesFetch : Bool → ℕ → ℕ → List ℕ → Result (Vec ℕ Global) Refusal → Type 0
MakesFetch by_uid first last numbers (Ok made) =
    (asked : List Attribute)
    × AreNumbers numbers asked
    × (made.items ≡ (told (fetch_called by_uid first last asked)).text)
MakesFetch by_uid first last numbers (Err e) =
    ((e ≡ NoAttribute) × NameNoAttributes numbers) ⊎ (e ≡ Build OutOfMemory)

-- the same as C is answered
abbrev pub AnswersFetch : Bool → ℕ → ℕ → List ℕ → Bytes → Bytes → TextAnswer → Type 0
AnswersFetch by_uid first last numbers old new answer =
    ((asked : List Attribute)
    × AreNumbers numbers asked
    × Puts (told (fetch_called by_uid first last asked)).text old new answer)
    ⊎ (NameNoAttributes numbers × PutsNone (refusal_number NoAttribute) old new answer)
    ⊎ PutsNone out_of_memory old new answer
