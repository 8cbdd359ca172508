-- Canonical text: one text for each value. It is a list of pieces, which are bytes as they are, and literals (RFC 3501,
-- section 9: literal).
use Rattle.std.specs.Prelude.{ℕ, ◌<◌, ◌^◌, List, [], ◌∷◌, ◌++◌, length, Option, None, Some, decimal, codes}
use Rattle.imap_grammar.specs.Ascii.{line_feed, carriage_return, quote, open_brace, close_brace}
use Prim.Native.String.{String}
use Rattle.imap_grammar.specs.Text.{Bytes, Text}
use Rattle.imap_grammar.specs.Ranges.{Range}

pub data Piece : Type 0 where
  Raw Lit : Bytes → Piece

abbrev pub Pieces : Type 0
Pieces = List Piece

-- `{`, the length, `}`, CRLF, the bytes
abbrev pub literal_of : Bytes → Bytes
literal_of b = open_brace ∷ (decimal (length b) ++ (close_brace ∷ carriage_return ∷ line_feed ∷ b))

-- the bytes of all pieces
abbrev pub written : Pieces → Bytes
written [] = []
written (Raw b ∷ ps) = b ++ written ps
written (Lit b ∷ ps) = literal_of b ++ written ps

-- the length of each literal can be told by a number of 32 bits
abbrev pub Fits : Pieces → Type 0
Fits [] = Unit {0}
Fits (Raw b ∷ ps) = Fits ps
Fits (Lit b ∷ ps) = (length b < 2 ^ 32) × Fits ps

-- ---- words for pieces

infixr 30 ◌then◌
abbrev pub ◌then◌ : Pieces → Pieces → Pieces
p then q = p ++ q

abbrev pub raw : Bytes → Pieces
raw b = Raw b ∷ []

abbrev pub words : String → Pieces
words k = raw (codes k)

abbrev pub lit : Bytes → Pieces
lit b = Lit b ∷ []

abbrev pub space : Pieces
space = words " "

-- each in turn
abbrev pub each : {V : Type 0} → (V → Pieces) → List V → Pieces
each c [] = []
each c (v ∷ vs) = c v then each c vs

-- each in turn, with some pieces between
abbrev pub separated : {V : Type 0} → Pieces → (V → Pieces) → List V → Pieces
separated s c [] = []
separated s c (v ∷ vs) = c v then each (λ w. s then c w) vs

-- in brackets, by one space
abbrev pub list_text : {V : Type 0} → (V → Pieces) → List V → Pieces
list_text c vs = words "(" then separated space c vs then words ")"

-- ---- the values of this crate's rules

-- without leading zeros
abbrev pub number_text : ℕ → Pieces
number_text n = raw (decimal n)

-- a string is a literal
abbrev pub nstring_text : Option Bytes → Pieces
nstring_text None = words "NIL"
nstring_text (Some b) = lit b

-- a text as it is, in quotes, as a literal, and NIL where there is none
abbrev pub plain : Text → Pieces
plain t = raw t.bytes

abbrev pub in_quotes : Bytes → Pieces
in_quotes b = raw (quote ∷ (b ++ quote ∷ []))

abbrev pub quoted_text : Text → Pieces
quoted_text t = in_quotes t.bytes

abbrev pub literal_text : Text → Pieces
literal_text t = lit t.bytes

abbrev pub ntext : Option Text → Pieces
ntext None = words "NIL"
ntext (Some t) = literal_text t

-- the two ends of a range
abbrev pub range_text : Range → Pieces
range_text r = number_text r.start then words ":" then number_text r.end

abbrev pub ranges_text : List Range → Pieces
ranges_text = separated (words ",") range_text
