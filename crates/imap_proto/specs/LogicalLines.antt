-- Logical lines. "All interactions transmitted by client and server are in the form of lines, that is, strings that end
-- with a CRLF" (RFC 3501, section 2.2). "A literal is a sequence of zero or more octets (including CR and LF),
-- prefix-quoted with an octet count in the form of an open brace ("{"), the number of octets, close brace ("}"), and
-- CRLF" (section 4.3). So a logical line is any literals and any other bytes, up to the first CRLF that belongs to no
-- literal, and that CRLF. A `{` that begins no literal, and a CR that no LF follows, are bytes like any other.
use Rattle.std.specs.Prelude.{◌≡◌, ◌≢◌, ℕ, ◌==◌, ◌&&◌, Bool, not, [], ◌∷◌, ◌++◌, Result, IfErr}
use Rattle.imap_grammar.specs.declared.answer.Err.{Err as Fault}
use Rattle.imap_grammar.specs.declared.answer.Err.TheVariants.{Error}
use Rattle.imap_grammar.specs.Ascii.{line_feed, carriage_return, open_brace}
use Rattle.imap_grammar.specs.Meaning.{Denies}
use Rattle.imap_grammar.specs.Rule.{Rule, meaning, tag_by, run0, run1, raw, many, ◌⨾◌, ◌▹◌, ◌or◌}
use Rattle.imap_grammar.specs.Tags.{tag}
use Rattle.imap_grammar.specs.Text.{Bytes}
use Rattle.imap_bytes.specs.Strings.{literal}

abbrev pub is_cr : ℕ → Bool
is_cr b = b == carriage_return

-- any byte but CR, LF and `{`
abbrev pub is_plain : ℕ → Bool
is_plain b = not (b == carriage_return) && not (b == line_feed) && not (b == open_brace)

abbrev pub lf : Rule Bytes
lf = tag_by ◌==◌ (line_feed ∷ [])

-- line-text = 1*<any byte but CR, LF and "{"> / literal / "{"
unfoldable pub line_text : Rule Bytes
line_text = run1 is_plain or literal or tag "{"

-- line-part = *CR line-text / LF. No LF follows these CRs; and no CR stands before this LF, but as a literal's last
-- byte.
unfoldable pub line_part : Rule Bytes
line_part = run0 is_cr ▹ line_text or lf

-- line-content = *line-part
unfoldable pub line_content : Rule Bytes
line_content = raw (many line_part)

-- line-close = 1*CR LF
unfoldable pub line_close : Rule (Bytes × Bytes)
line_close = run1 is_cr ⨾ lf

-- logical-line = line-content line-close: all these bytes, of which the last two are the CRLF
unfoldable pub logical_line : Rule Bytes
logical_line = raw (line_content ⨾ line_close)

-- a reader does not deny
abbrev pub NeverDenied : {A : Type 0} → Result A Fault → Type 0
NeverDenied result = IfErr result (λ e. e ≢ Error)

-- ---- laws

-- no bytes are denied: some bytes behind them end the line
abbrev pub NoLineIsDenied : Type 0
NoLineIsDenied = (m : Bytes) → ¬ (Denies (meaning logical_line) m)

-- a line and what is left of the bytes are all of them, and the line ends in CRLF
abbrev pub LinesEnd : Type 0
LinesEnd =
    (m line rest : Bytes) →
    (meaning logical_line).yields m line rest →
    (front : Bytes) × (line ≡ front ++ (carriage_return ∷ line_feed ∷ [])) × (m ≡ line ++ rest)
