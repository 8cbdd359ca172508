-- Where the content of a string lies, which was read from p on: x is the position that was reached, and the span.
use Rattle.std.specs.Prelude.{◌≡◌, ℕ, ◌+◌, ◌==◌, Bool, true, false, List, drop, Option, IfSome}
use Rattle.imap_grammar.specs.Ascii.{quote}
use Rattle.imap_grammar.specs.Classes.{is_astring_char}
use Rattle.imap_grammar.specs.Meaning.{begins}
use Rattle.imap_grammar.specs.declared.at.span.Span.{Span}

-- of a run: all that was read
abbrev pub IsRunPlace : ℕ → ℕ × Span → Type 0
IsRunPlace p x = (x.1.start ≡ p) × (x.1.end ≡ x.0)

-- of a quoted string: behind its first quote, and up to its last one
abbrev pub IsQuotedPlace : ℕ → ℕ × Span → Type 0
IsQuotedPlace p x = (x.1.start ≡ p + 1) × (x.1.end + 1 ≡ x.0)

-- of a literal: it ends where the reader stops. How long it is, its bytes tell.
abbrev pub IsLiteralPlace : ℕ × Span → Type 0
IsLiteralPlace x = x.1.end ≡ x.0

-- of a string: of a quoted one behind a quote, else of a literal
abbrev place_of_string : Bool → ℕ → ℕ × Span → Type 0
place_of_string true p x = IsQuotedPlace p x
place_of_string false p x = IsLiteralPlace x

abbrev pub IsStringPlace : List ℕ → ℕ → ℕ × Span → Type 0
IsStringPlace m p x = place_of_string (begins (λ b. b == quote) (drop p m)) p x

-- of an astring: of a run that begins with an astring-char, else of a string
abbrev place_of_astring : Bool → List ℕ → ℕ → ℕ × Span → Type 0
place_of_astring true m p x = IsRunPlace p x
place_of_astring false m p x = IsStringPlace m p x

abbrev pub IsAstringPlace : List ℕ → ℕ → ℕ × Span → Type 0
IsAstringPlace m p x = place_of_astring (begins is_astring_char (drop p m)) m p x

-- of an nstring: of the string, where there is one
abbrev pub IsNstringPlace : List ℕ → ℕ → ℕ × Option Span → Type 0
IsNstringPlace m p x = IfSome x.1 (λ s. IsStringPlace m p (x.0, s))
