-- Cursors: where in a buffer the next response begins, and how many bytes have to be there before it is read again. The
-- caller holds the buffer, and puts what comes behind what it holds.
use Rattle.std.specs.Prelude.{ℕ, ◌+◌, ◌-◌, ◌<◌, ◌≤◌, ◌++◌, length, drop}
use Rattle.imap_grammar.specs.Meaning.{Lacks}
use Rattle.imap_grammar.specs.Rule.{meaning}
use Rattle.imap_grammar.specs.Text.{Bytes}
use Rattle.imap_proto.specs.Lines.{response}
use Rattle.imap_c.specs.declared.cursors.Cursor.{Cursor}

-- the bytes from where the next response begins
abbrev pub held : Bytes → Cursor → Bytes
held m c = drop c.start m

-- The cursor is one of these bytes: it starts within them, and where it wants more than stand from there on, the
-- grammar lacks as many.
pub record Fits (m : Bytes) (c : Cursor) : Type 0 where
  pub within : c.start ≤ length m
  pub lacks :
      length (held m c) < c.wanted →
      Lacks (meaning response) (held m c) (c.wanted - length (held m c))

-- ---- laws

-- at any place, with nothing wanted
abbrev pub FitsAnew : Type 0
FitsAnew = (m : Bytes) (n : ℕ) → n ≤ length m → Fits m (record { start = n; wanted = 0 })

-- bytes were put behind
abbrev pub FitsMore : Type 0
FitsMore = (m more : Bytes) (c : Cursor) → Fits m c → Fits (m ++ more) c

-- bytes in front of the start were dropped
abbrev pub FitsLess : Type 0
FitsLess =
    (gone m : Bytes) (start wanted : ℕ) →
    Fits (gone ++ m) (record { start = length gone + start; wanted = wanted }) →
    Fits m (record { start = start; wanted = wanted })
