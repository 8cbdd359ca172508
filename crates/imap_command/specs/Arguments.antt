-- The arguments of a command: which are refused, and how they are quoted (RFC 3501, section 9).
use Rattle.std.specs.Prelude.{◌≡◌, ◌==◌, ◌||◌, ℕ, List, [], ◌∷◌, ◌++◌, if◌then◌else◌, codes, Option, None, Some, Result, Ok, Err}
use Rattle.std.specs.List.{flat_map}
use Rattle.std.specs.Option.{option_or}
use Rattle.imap_command.specs.Ascii.{nul, line_feed, carriage_return, quote, backslash}
use Rattle.imap_command.specs.declared.errors.BuildError.{BuildError}
use Rattle.imap_command.specs.declared.errors.BuildError.TheVariants.{CarriageReturn, LineFeed, Nul, OutOfMemory}

-- why a byte can't stand in a quoted string, if it can't
abbrev pub refused_byte : ℕ → Option BuildError
refused_byte byte =
    if byte == carriage_return then Some CarriageReturn
    else if byte == line_feed then Some LineFeed
    else if byte == nul then Some Nul
    else None

-- an argument's refusal: that of its first byte that has one
abbrev pub refusal : List ℕ → Option BuildError
refusal [] = None
refusal (byte ∷ rest) = option_or (refused_byte byte) (refusal rest)

-- quoted: a `\` stands before each `"` and `\`, and all other bytes stay
abbrev pub escaped_byte : ℕ → List ℕ
escaped_byte byte = if byte == quote || byte == backslash then backslash ∷ byte ∷ [] else byte ∷ []

abbrev pub quoted : List ℕ → List ℕ
quoted argument = codes "\"" ++ (flat_map escaped_byte argument ++ codes "\"")

-- the answer to an argument alone
abbrev pub judgement : Option BuildError → Result (Unit {0}) BuildError
judgement (Some refusal) = Err refusal
judgement None = Ok tt

-- The answer of a call by the refusal of its arguments: the refusal itself, and where there is none
-- no fault but want of memory.
abbrev pub Judges : {A : Type 0} → Option BuildError → Result A BuildError → Type 0
Judges (Some refusal) result = result ≡ Err refusal
Judges None (Ok value) = Unit {0}
Judges None (Err error) = error ≡ OutOfMemory
