-- Finished commands are told apart by their bytes.
use Rattle.std.specs.Prelude.{◌≡◌, List, All}
use Rattle.imap_command.specs.Calls.{Call, Ends, InRange, stage, told}

-- calls that the types allow and that end in a `Command`
pub record Finished (calls : List Call) : Type 0 where
  pub ends : Ends (stage calls)
  pub in_range : All InRange calls

-- Finished calls that tell the same bytes are the same calls, whatever texts their arguments are.
-- Ranges are compared by their printed ends.
abbrev pub CallsToldApart : Type 0
CallsToldApart = (a b : List Call) → Finished a → Finished b → (told a).text ≡ (told b).text → a ≡ b
