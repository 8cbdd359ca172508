-- The classes of bytes (RFC 3501, section 9: CHAR, TEXT-CHAR, QUOTED-CHAR, ATOM-CHAR, ASTRING-CHAR and the specials).
use Rattle.std.specs.Prelude.{ℕ, Bool, ◌==◌, ◌&&◌, ◌||◌, nat_lt, not}
use Rattle.imap_grammar.specs.Ascii.{nul, tab, line_feed, carriage_return, space, quote, percent, open_parenthesis, close_parenthesis, asterisk, backslash, close_bracket, open_brace}

-- char: any byte but 0, as CHAR8; CHAR itself ends at 127
abbrev pub is_char : ℕ → Bool
is_char b = not (b == nul)

-- text-char: a char but CR and LF
abbrev pub is_text_char : ℕ → Bool
is_text_char b = is_char b && not (b == carriage_return) && not (b == line_feed)

-- list-wildcards: `%` and `*`
abbrev pub is_list_wildcards : ℕ → Bool
is_list_wildcards b = (b == percent) || (b == asterisk)

-- quoted-specials: `"` and `\`
abbrev pub is_quoted_specials : ℕ → Bool
is_quoted_specials b = (b == quote) || (b == backslash)

-- resp-specials: `]`
abbrev pub is_resp_specials : ℕ → Bool
is_resp_specials b = b == close_bracket

-- atom-specials: `(`, `)`, `{`, SP, CTL but 127, and the three classes above
abbrev pub is_atom_specials : ℕ → Bool
is_atom_specials b =
    (b == open_parenthesis)
    || (b == close_parenthesis)
    || (b == open_brace)
    || (b == space)
    || nat_lt b space
    || is_list_wildcards b
    || is_quoted_specials b
    || is_resp_specials b

-- atom-char: a char that is no atom-special
abbrev pub is_atom_char : ℕ → Bool
is_atom_char b = is_char b && not (is_atom_specials b)

-- astring-char: an atom-char, or a resp-special
abbrev pub is_astring_char : ℕ → Bool
is_astring_char b = is_atom_char b || is_resp_specials b

-- quoted-char: a text-char that is no quoted-special
abbrev pub is_quoted_char : ℕ → Bool
is_quoted_char b = is_text_char b && not (is_quoted_specials b)

-- a digit: `0` is 48, and `9` is 57
abbrev pub is_digit : ℕ → Bool
is_digit b = nat_lt 47 b && nat_lt b 58

-- a space or a tab
abbrev pub is_blank : ℕ → Bool
is_blank b = (b == space) || (b == tab)
