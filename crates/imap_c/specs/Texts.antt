-- Texts that are put into a caller's buffer.
use Rattle.std.specs.Prelude.{◌≡◌, ℕ, ◌++◌, length, take, drop}
use Rattle.imap_grammar.specs.Text.{Bytes}
use Rattle.imap_c.specs.declared.texts.TextAnswer.{TextAnswer}
use Rattle.imap_c.specs.Numbers.{found}

-- a buffer that held old: as much of the text as there is room for, and what stood behind that
abbrev pub filled : Bytes → Bytes → Bytes
filled text old = take (length old) text ++ drop (length text) old

-- the text was put into the buffer, and its length is answered, also where there is less room
abbrev pub Puts : Bytes → Bytes → Bytes → TextAnswer → Type 0
Puts text old new answer =
    (answer ≡ record { outcome = found; size = length text }) × (new ≡ filled text old)

-- there is no text, and this is why; the buffer is as it was
abbrev pub PutsNone : ℕ → Bytes → Bytes → TextAnswer → Type 0
PutsNone why old new answer = (answer ≡ record { outcome = why; size = 0 }) × (new ≡ old)
