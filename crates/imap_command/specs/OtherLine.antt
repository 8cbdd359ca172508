-- A command that has no builder of its own is one line, on which a literal is announced at the end alone.
use Rattle.std.specs.Prelude.{◌≡◌, ◌≢◌, ◌==◌, ℕ, List, [], ◌∷◌, ◌++◌, All, if◌then◌else◌, codes, decimal, None}
use Rattle.imap_command.specs.Ascii.{quote, backslash, open_brace}
use Rattle.imap_command.specs.OneLine.{StaysInLine}
use Rattle.imap_command.specs.OtherWords.{name_refusal}
use Rattle.imap_command.specs.OtherCalls.{Argument, literal, Unrefused, InRange, refused, stage, begun}

-- a name and arguments that are not refused, in an order that the types allow
pub record Sound (name : List ℕ) (arguments : List Argument) : Type 0 where
  pub name_accepted : name_refusal name ≡ None
  pub accepted : All Unrefused arguments
  pub in_range : All InRange arguments
  pub in_order : stage arguments ≢ refused

-- The text has no carriage return, line feed or zero byte, so the command is one line.
abbrev pub OtherOneLine : Type 0
OtherOneLine =
    (name : List ℕ) (arguments : List Argument) → Sound name arguments
    → All StaysInLine (begun name arguments)

-- where a reader of a line stands: outside a quoted string, in one, or behind a `\` of one
pub data Place : Type 0 where
  outside : Place
  inside : Place
  escaped : Place

-- what a reader finds from the first `{` outside quoted strings on
abbrev pub from_brace : Place → List ℕ → List ℕ
from_brace outside [] = []
from_brace outside (b ∷ rest) =
    if b == quote then from_brace inside rest
    else if b == open_brace then b ∷ rest
    else from_brace outside rest
from_brace inside [] = []
from_brace inside (b ∷ rest) =
    if b == quote then from_brace outside rest
    else if b == backslash then from_brace escaped rest
    else from_brace inside rest
from_brace escaped [] = []
from_brace escaped (b ∷ rest) = from_brace inside rest

-- what announces a literal, where the last call was `literal`
abbrev pub announcement : List Argument → List ℕ
announcement (literal n ∷ before) = codes "{" ++ (decimal n ++ codes "}")
announcement arguments = []

-- Outside quoted strings a `{` stands in what `literal` wrote alone, and that is the end of the line.
abbrev pub LiteralEndsLine : Type 0
LiteralEndsLine =
    (name : List ℕ) (arguments : List Argument) → Sound name arguments
    → from_brace outside (begun name arguments) ≡ announcement arguments
