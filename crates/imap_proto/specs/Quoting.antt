-- Arguments of commands as strings: what a command quotes, a reader takes (RFC 3501, section 9: quoted).
use Rattle.std.specs.Prelude.{◌≡◌, ◌++◌, All}
use Rattle.std.specs.List.{flat_map}
use Rattle.imap_grammar.specs.Rule.{meaning}
use Rattle.imap_grammar.specs.Text.{Bytes}
use Rattle.imap_bytes.specs.Strings.{quoted}
use Rattle.imap_body.specs.Unescaped.{unescaped}
use Rattle.imap_command.specs.Arguments.{escaped_byte, quoted as quoted_argument}
use Rattle.imap_command.specs.OneLine.{StaysInLine}

-- An argument without CR, LF and NUL, as a command quotes it, is a quoted string, whatever follows. Its content is the
-- argument with a `\` before each `"` and `\`.
abbrev pub QuotedIsRead : Type 0
QuotedIsRead =
    (argument t : Bytes) → All StaysInLine argument
    → (meaning quoted).yields (quoted_argument argument ++ t) (flat_map escaped_byte argument) t

-- The content of an argument as a command quotes it is, without its escapes, the argument. So a name that was read
-- without its escapes, and is sent again, is read as the same name.
abbrev pub QuotedIsUnescaped : Type 0
QuotedIsUnescaped = (argument : Bytes) → unescaped (flat_map escaped_byte argument) ≡ argument
