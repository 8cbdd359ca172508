-- Tags of commands (RFC 3501, section 2.2.1), and the line of a command.
use Rattle.std.specs.Prelude.{ℕ, ◌++◌, codes, decimal}
use Rattle.imap_grammar.specs.Text.{Bytes}

-- the tag with this number: `A1`, `A2` and so on
abbrev pub tag : ℕ → Bytes
tag number = codes "A" ++ decimal number

-- the last number of a tag
abbrev pub last_number : ℕ
last_number = 18446744073709551615

-- a command behind its tag (RFC 3501, section 9: command)
abbrev pub line : Bytes → Bytes → Bytes
line tag args = tag ++ codes " " ++ args ++ codes "\r\n"
