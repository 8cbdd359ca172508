-- Where a quote is found that stands behind quoted-chars alone.
use Rattle.std.specs.Prelude.{◌≡◌, ◌≤◌, ◌+◌, ◌||◌, ℕ, Bool, List, Option, Some, nat_le, length, slice_index}
use Rattle.std.specs.List.{position_or_len}
use Rattle.imap_grammar.specs.Ascii.{carriage_return, quote}
use Rattle.imap_grammar.specs.Classes.{is_quoted_specials}

-- Bytes at which a look for a quote stops: quoted-specials, and controls up to CR.
abbrev pub may_stop : ℕ → Bool
may_stop b = nat_le b carriage_return || is_quoted_specials b

-- The first of these is found if it is a quote and sixteen bytes are there from it on.
abbrev pub FindsQuote : List ℕ → Option ℕ → Type 0
FindsQuote m found =
    (n : ℕ) →
    n + 16 ≤ length m →
    position_or_len may_stop m ≡ n →
    slice_index m n ≡ quote →
    found ≡ Some n
