-- Lines of one number, from their text: what the grammar reads, and not what it doesn't.
use Rattle.std.specs.Prelude.{◌<◌, ◌^◌, ℕ, ◌∷◌, ◌++◌, decimal, codes, IsTrue}
use Prim.Native.String.{String}
use Rattle.std.specs.List.{list_all}
use Rattle.imap_grammar.specs.Ascii.{line_feed, carriage_return}
use Rattle.imap_grammar.specs.Rule.{meaning}
use Rattle.imap_grammar.specs.Text.{Bytes}
use Rattle.imap_data.specs.DatumValues.{Exists, Recent}
use Rattle.imap_proto.specs.Responses.{ResponseValue, MailboxData}
use Rattle.imap_proto.specs.Lines.{is_space, response}

-- `* `, a number below 2 ^ 32, the word, spaces, maybe none, and CRLF
abbrev pub count_text : String → ℕ → Bytes → Bytes → Bytes
count_text k n blank t =
    codes "* " ++ (decimal n ++ (codes k ++ (blank ++ carriage_return ∷ line_feed ∷ t)))

-- Such a line is read as this response of its number, whatever follows.
abbrev pub CountIsRead : String → (ℕ → ResponseValue) → Type 0
CountIsRead k counted =
    (n : ℕ) (blank t : Bytes) → n < 2 ^ 32 → IsTrue (list_all is_space blank)
    → (meaning response).yields (count_text k n blank t) (counted n) t

abbrev pub exists_of : ℕ → ResponseValue
exists_of n = MailboxData (Exists n)

abbrev pub recent_of : ℕ → ResponseValue
recent_of n = MailboxData (Recent n)
