-- Words of the protocol, and the space between its parts.
use Rattle.std.specs.Prelude.{ℕ, Bool, [], ◌∷◌, Option, ◌==◌, codes}
use Prim.Native.String.{String}
use Rattle.std.specs.Char.{to_ascii_lowercase}
use Rattle.imap_grammar.specs.Ascii.{carriage_return, line_feed}
use Rattle.imap_grammar.specs.Classes.{is_blank}
use Rattle.imap_grammar.specs.Text.{Bytes}
use Rattle.imap_grammar.specs.Rule.{Rule, tag_by, run0, run1, nothing, opt, ◌▹◌}

-- whether two bytes are one letter, in either case
abbrev pub same_letter : ℕ → ℕ → Bool
same_letter a b = to_ascii_lowercase a == to_ascii_lowercase b

-- exactly these bytes
abbrev pub tag : String → Rule Bytes
tag k = tag_by ◌==◌ (codes k)

-- these bytes, their letters in either case
abbrev pub word : String → Rule Bytes
word k = tag_by same_letter (codes k)

-- a word that stands for a value
abbrev pub names : {A : Type 0} → String → A → Rule A
names k x = word k ▹ nothing x

-- exactly these bytes, which stand for a value
abbrev pub exactly_names : {A : Type 0} → String → A → Rule A
exactly_names k x = tag k ▹ nothing x

abbrev pub sp : Rule Bytes
sp = tag " "

abbrev pub maybe_space : Rule (Option Bytes)
maybe_space = opt sp

abbrev pub crlf : Rule Bytes
crlf = tag_by ◌==◌ (carriage_return ∷ line_feed ∷ [])

-- spaces and tabs, maybe none
abbrev pub blanks0 : Rule Bytes
blanks0 = run0 is_blank

-- at least one space or tab
abbrev pub blanks1 : Rule Bytes
blanks1 = run1 is_blank
