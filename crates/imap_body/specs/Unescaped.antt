-- What strings say with their escapes undone (RFC 3501, section 9: quoted, QUOTED-CHAR, quoted-specials).
use Rattle.std.specs.Prelude.{◌≡◌, ◌==◌, ◌&&◌, ◌-◌, Bool, false, [], ◌∷◌, if◌then◌else◌, ◌++◌}
use Rattle.std.specs.List.{list_any}
use Rattle.imap_grammar.specs.Ascii.{quote, backslash}
use Rattle.imap_grammar.specs.Meaning.{begins}
use Rattle.imap_grammar.specs.Text.{Bytes, Text, as_text, decoded, owned_text}
use Rattle.imap_grammar.specs.declared.at.span.Span.{Span}
use Rattle.imap_body_types.specs.Spans.{Lookup, text_in}
use Rattle.imap_body_types.specs.declared.spans.SpannedText.{SpannedText}
use Rattle.imap_body_types.specs.declared.spans.SpannedText.TheVariants as spanned
use Rattle.imap_body.specs.AttributeValues.{AttributeValue, AttributeSpans, parts_said}

-- The content of a quoted string without its escapes: a `\` is dropped, and the byte behind it stays.
abbrev pub unescaped : Bytes → Bytes
unescaped [] = []
unescaped (b ∷ []) = if b == backslash then [] else b ∷ []
unescaped (b ∷ c ∷ rest) = if b == backslash then c ∷ unescaped rest else b ∷ unescaped (c ∷ rest)

abbrev pub has_backslash : Bytes → Bool
has_backslash content = list_any (λ b. b == backslash) content

-- where the byte before a span stands
abbrev pub before : Span → Span
before s = record { start = s.start - 1; end = s.start }

-- Whether the span names the content of a quoted string: a `"` stands before it. Before that of a literal there is a
-- line feed, and before an atom a space, a bracket or the like.
abbrev pub is_quoted : Lookup → Span → Bool
is_quoted n s = begins (λ b. b == quote) (n (before s))

-- whether it is that of one that has an escape
abbrev pub is_escaped : Lookup → Span → Bool
is_escaped n s = is_quoted n s && has_backslash (n s)

-- What a string says, by what its bytes say: where it has an escape, those that are left without it, owned; else all
-- bytes as they stand.
abbrev pub unescaped_string : (Bytes → Text) → Lookup → Span → Text
unescaped_string say n s = if is_escaped n s then owned_text (say (unescaped (n s))) else say (n s)

-- the byte string that a span names
abbrev pub unescaped_bytes : Lookup → Span → Text
unescaped_bytes n s = unescaped_string as_text n s

-- the text that a span names, or the one that a rule fixes
abbrev pub unescaped_text : Lookup → SpannedText → Text
unescaped_text n (spanned.Part s) = unescaped_string decoded n s
unescaped_text n spanned.Text = text_in n spanned.Text
unescaped_text n spanned.Message = text_in n spanned.Message
unescaped_text n spanned.Rfc822 = text_in n spanned.Rfc822
unescaped_text n spanned.Multipart = text_in n spanned.Multipart

-- what the spans of an attribute name
abbrev pub parts_unescaped : Lookup → AttributeSpans → AttributeValue
parts_unescaped n x = parts_said unescaped_text unescaped_bytes n x

-- ---- where nothing is to undo

-- No `\` stands behind a `"`.
abbrev pub HasNoEscape : Bytes → Type 0
HasNoEscape m = (front rest : Bytes) → m ≡ front ++ quote ∷ rest → has_backslash rest ≡ false
