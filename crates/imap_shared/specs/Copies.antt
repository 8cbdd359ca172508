-- Which copies of texts take no memory.
use Rattle.std.specs.Prelude.{◌≡◌, true}
use Rattle.imap_grammar.specs.Text.{Text}

-- it is borrowed
abbrev pub IsLent : Text → Type 0
IsLent t = t.borrowed ≡ true
