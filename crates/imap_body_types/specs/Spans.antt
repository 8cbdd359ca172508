-- What spans name, in a message or by any other way to look them up.
use Rattle.std.specs.Prelude.{◌≡◌, ◌≤◌, ℕ, true, false, Ok, Err, codes}
use Rattle.std.specs.declared.borrow.CowStr.{CowStr}
use Rattle.std.specs.declared.borrow.CowSlice.{CowSlice}
use Rattle.std.specs.declared.borrow.CowSlice.TheVariants as slice
use Rattle.imap_grammar.specs.Text.{Bytes, Text, text_of, decoded, as_text, owned_text}
use Rattle.imap_grammar.specs.declared.at.span.Span.{Span}
use Rattle.imap_grammar.specs.Positions.{Reached}
use Rattle.imap_body_types.specs.declared.spans.SpannedText.{SpannedText}
use Rattle.imap_body_types.specs.declared.spans.SpannedText.TheVariants as spanned

-- A way to look spans up: the bytes that each names. A message m is one, `named_in m`.
abbrev pub Lookup : Type 0
Lookup = Span → Bytes

-- the byte string that a span names, as a text
abbrev pub bytes_in : Lookup → Span → Text
bytes_in n s = as_text (n s)

-- the text that a span names, or the one that a rule fixes
abbrev pub text_in : Lookup → SpannedText → Text
text_in n (spanned.Part s) = decoded (n s)
text_in n spanned.Text = as_text (codes "TEXT")
text_in n spanned.Message = as_text (codes "MESSAGE")
text_in n spanned.Rfc822 = as_text (codes "RFC822")
text_in n spanned.Multipart = as_text (codes "MULTIPART")

-- ---- where the spans of a value lie

-- Two ways that look up the same bytes for each span that is in order and ends at q or before.
abbrev pub AlikeTo : ℕ → Lookup → Lookup → Type 0
AlikeTo q n k = (s : Span) → s.start ≤ s.end → s.end ≤ q → n s ≡ k s

-- What x says rests on such spans alone: two ways that differ on other spans only make it say the same. So where the
-- view shows a string of x, its span is in order and ends at q or before, whatever it names (`bytes_lie` and
-- `part_lies` of `proofs/Places`).
pub record Rests {A V : Type 0} (view : Lookup → A → V) (q : ℕ) (x : A) : Type 0 where
  pub same : (n k : Lookup) → AlikeTo q n k → view n x ≡ view k x

-- The spans of what was read lie before the position that was reached.
abbrev pub RestsOn : {A V : Type 0} → (Lookup → A → V) → Reached A → Type 0
RestsOn view (Ok x) = Rests view x.0 x.1
RestsOn view (Err e) = Unit {0}

-- ---- texts of values

-- a `CowSlice` of bytes as a text
abbrev pub bytes_of : {Z : Type 0} → CowSlice ℕ Z → Text
bytes_of (slice.Borrowed s) = record { bytes = s.now; borrowed = true }
bytes_of (slice.Owned v) = record { bytes = v.items; borrowed = false }

abbrev pub text_owned : {Z : Type 0} → CowStr Z → Text
text_owned t = owned_text (text_of t)

abbrev pub bytes_owned : {Z : Type 0} → CowSlice ℕ Z → Text
bytes_owned t = owned_text (bytes_of t)
