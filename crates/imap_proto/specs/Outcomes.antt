-- What a status line says besides its status (RFC 3501, section 7.1 and section 9: resp-text).
use Rattle.std.specs.Prelude.{[], ◌∷◌, Option, None, Some, drop, chars, encode_utf8_all}
use Rattle.imap_grammar.specs.Text.{Bytes, Text}
use Rattle.imap_grammar.specs.Rule.{Rule, gives, nothing, opt, otherwise, ◌⨾◌, ◌▹◌}
use Rattle.imap_grammar.specs.Tags.{sp}
use Rattle.imap_bytes.specs.Texts.{text}
use Rattle.imap_data.specs.Codes.{CodeValue}
use Rattle.imap_data.specs.Codes.{response_code}
use Rattle.imap_proto.specs.Responses.{OutcomeValue}

-- a text without its first character
abbrev pub bytes_after_first : Bytes → Bytes
bytes_after_first t = encode_utf8_all (drop 1 (chars t))

abbrev pub after_first : Text → Text
after_first t = record { bytes = bytes_after_first t.bytes; borrowed = t.borrowed }

-- an empty text is no information
abbrev pub unless_empty : Bytes → Text → Option Text
unless_empty [] t = None
unless_empty (b ∷ bytes) t = Some t

-- behind a code the information begins after one character
abbrev pub information : Option CodeValue → Text → Option Text
information None t = unless_empty t.bytes t
information (Some code) t = unless_empty t.bytes (after_first t)

abbrev pub outcome_of : Option CodeValue × Text → OutcomeValue
outcome_of (code, text) = record { code = code; information = information code text }

-- resp-text = ["[" resp-text-code "]" SP] text, where the text may be empty, and behind a code its first character
--     is left out
unfoldable pub outcome : Rule OutcomeValue
outcome = gives outcome_of (opt response_code ⨾ text)

-- the same where no code stands
unfoldable pub plain_outcome : Rule OutcomeValue
plain_outcome = gives outcome_of (nothing None ⨾ text)

abbrev pub no_outcome : OutcomeValue
no_outcome = record { code = None; information = None }

-- behind a space, or none
unfoldable pub spaced_outcome : Rule OutcomeValue
spaced_outcome = otherwise (sp ▹ outcome) no_outcome
