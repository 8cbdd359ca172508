-- Finished commands are one line each, since arguments that would bring in another are refused.
use Rattle.std.specs.Prelude.{◌≡◌, ◌≢◌, ℕ, List, ◌∷◌, ◌++◌, All, None, Some}
use Rattle.imap_command.specs.Ascii.{nul, line_feed, carriage_return}
use Rattle.imap_command.specs.Arguments.{refusal}
use Rattle.imap_command.specs.Calls.{Call, told, list, login, select, examine}
use Rattle.imap_command.specs.declared.errors.BuildError.{BuildError}

-- none of the call's arguments is refused
abbrev pub Unrefused : Call → Type 0
Unrefused (list reference glob) = (refusal reference ≡ None) × (refusal glob ≡ None)
Unrefused (login user_name password) = (refusal user_name ≡ None) × (refusal password ≡ None)
Unrefused (select mailbox) = refusal mailbox ≡ None
Unrefused (examine mailbox) = refusal mailbox ≡ None
Unrefused call = Unit {0}

-- a byte that ends no line, and is not zero
abbrev pub StaysInLine : ℕ → Type 0
StaysInLine byte = (byte ≢ carriage_return) × (byte ≢ line_feed) × (byte ≢ nul)

-- an argument whose first byte that doesn't stay in line is this one, is refused by this error
abbrev pub RefusedAs : ℕ → BuildError → Type 0
RefusedAs byte error =
    (before behind : List ℕ) → All StaysInLine before
    → refusal (before ++ (byte ∷ behind)) ≡ Some error

-- Where no argument is refused, what the calls tell has no carriage return, line feed or zero byte. So a finished
-- command is one line.
abbrev pub OneLine : Type 0
OneLine = (calls : List Call) → All Unrefused calls → All StaysInLine (told calls).text
