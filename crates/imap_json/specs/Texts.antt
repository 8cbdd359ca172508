-- Texts, byte strings and characters.
use Rattle.std.specs.Prelude.{ℕ, Bool, List, nat_lt, codes, if◌then◌else◌}
use Rattle.std.specs.Char.{encode_utf8}
use Rattle.std.specs.List.{list_all}
use Rattle.std.specs.Str.{is_utf8}
use Rattle.base64.specs.Engines.{standard}
use Rattle.base64.specs.GeneralPurpose.{encode_of}
use Rattle.serde_json.specs.Data.{Data}
use Rattle.imap_grammar.specs.Text.{Bytes, Text}
use Rattle.imap_json.specs.Forms.{string_json, list_json, number_json, variant_json}

-- borrowed or owned
abbrev pub text_json : Text → Data
text_json t = string_json t.bytes

abbrev pub are_bytes : List ℕ → Bool
are_bytes = list_all (λ b. nat_lt b 256)

-- RFC 4648, section 4, with padding. (What has a number above 255 is no byte string. It has its numbers here, so that
-- the laws hold of any value.)
abbrev pub base64_json : Bytes → Data
base64_json b =
    if are_bytes b then variant_json (codes "base64") (string_json (encode_of standard b))
    else list_json number_json b

abbrev pub raw_json : Bytes → Data
raw_json b = if is_utf8 b then string_json b else base64_json b

-- a byte string: as text where it is UTF-8, and else in base64
abbrev pub bytes_json : Text → Data
bytes_json t = raw_json t.bytes

-- a text of one character
abbrev pub char_json : ℕ → Data
char_json c = string_json (encode_utf8 c)
