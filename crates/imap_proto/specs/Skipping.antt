-- Streams in which a line is skipped where it is denied, so that what is behind it is read.
use Rattle.std.specs.Prelude.{◌≡◌, ℕ, List, [], ◌∷◌, ◌++◌, length, map, Option, None, Some}
use Rattle.imap_grammar.specs.Meaning.{Cuts}
use Rattle.imap_grammar.specs.Rule.{Rule, meaning, gives, ◌or◌}
use Rattle.imap_grammar.specs.Text.{Bytes}
use Rattle.imap_proto.specs.declared.response.Response.{Response}
use Rattle.imap_proto.specs.declared.stream.End.{End}
use Rattle.imap_proto.specs.declared.stream.End.TheVariants.{Waits}
use Rattle.imap_proto.specs.Responses.{ResponseValue, response_value}
use Rattle.imap_proto.specs.Owned.{owned_response}
use Rattle.imap_proto.specs.Lines.{response}
use Rattle.imap_proto.specs.LogicalLines.{logical_line}
use Rattle.imap_proto.specs.Streams.{EndsAs, Splits, Fed, joined}

-- a response that was taken, or a line that was skipped
pub data Item : Type 0 where
  Taken : ResponseValue → Item
  Skipped : Bytes → Item

-- a response, or else, where that is denied, a logical line
unfoldable pub item : Rule Item
item = gives Taken response or gives Skipped logical_line

-- The outcome of reading m so: the items that stand at its front, one behind another; what is left behind them, which
-- begins neither with a response nor with a whole line that is denied; and why it gives no response.
pub record SplitsPast (m : Bytes) (items : List Item) (left : Bytes) (end : End) : Type 0 where
  pub passes : Cuts (meaning item) m items left
  pub stops : (x : Item) (rest : Bytes) → ¬ ((meaning item).yields left x rest)
  pub ends : EndsAs left end

-- Of a feed: the pieces that it was fed, the responses that it has given and the denied lines that it has skipped, in
-- their order, and the bytes that it holds. It may be fed and asked in any order.
pub data Passed : List Bytes → List Item → Bytes → Type 0 where
  at_first : Passed [] [] []
  fed_piece :
      (pieces : List Bytes) (items : List Item) (held piece : Bytes) → Passed pieces items held →
      Passed (pieces ++ piece ∷ []) items (held ++ piece)
  passed :
      (pieces : List Bytes) (items : List Item) (held : Bytes) (x : Item) (rest : Bytes) →
      Passed pieces items held → (meaning item).yields held x rest → Passed pieces (items ++ x ∷ []) rest

-- ---- what calls of a feed do

-- it was fed one piece more
abbrev pub PassesPiece : Bytes → Bytes → Bytes → Type 0
PassesPiece held piece left =
    (pieces : List Bytes) (items : List Item) →
    Passed pieces items held →
    Passed (pieces ++ piece ∷ []) items left

-- it has given one response more, this one, with all its texts owned
abbrev pub PassesResponse : Bytes → Response → Bytes → Type 0
PassesResponse held r left =
    (pieces : List Bytes) (items : List Item) →
    Passed pieces items held →
    (v : ResponseValue)
    × (response_value r ≡ owned_response v)
    × Passed pieces (items ++ Taken v ∷ []) left

-- it has skipped one line more, of n bytes
abbrev pub PassesLine : Bytes → ℕ → Bytes → Type 0
PassesLine held n left =
    (pieces : List Bytes) (items : List Item) →
    Passed pieces items held →
    (line : Bytes) × (n ≡ length line) × Passed pieces (items ++ Skipped line ∷ []) left

-- What was dropped of what was held, and what is held then: the logical line at the front, by its length; or nothing,
-- where the line isn't whole.
abbrev pub Dropped : Bytes → Option ℕ → Bytes → Type 0
Dropped held (Some n) left =
    (line : Bytes) × (n ≡ length line) × (meaning logical_line).yields held line left
Dropped held None left =
    ((line rest : Bytes) → ¬ ((meaning logical_line).yields held line rest)) × (left ≡ held)

-- ---- laws

-- all bytes have an outcome
abbrev pub SomePast : Type 0
SomePast =
    (m : Bytes) → (items : List Item) × (left : Bytes) × (end : End) × SplitsPast m items left end

-- and one only
abbrev pub OnePast : Type 0
OnePast =
    (m : Bytes) (items others : List Item) (left other : Bytes) (end stop : End) →
    SplitsPast m items left end →
    SplitsPast m others other stop →
    (items ≡ others) × (left ≡ other) × (end ≡ stop)

-- behind more bytes it goes on where it ended
abbrev pub PastGoesOn : Type 0
PastGoesOn =
    (a b : Bytes) (items more : List Item) (held left : Bytes) (end stop : End) →
    SplitsPast a items held end →
    SplitsPast (held ++ b) more left stop →
    SplitsPast (a ++ b) (items ++ more) left stop

-- it begins with the responses of the split, and goes on behind these: where nothing is denied it is the split
abbrev pub PastBeginsSo : Type 0
PastBeginsSo =
    (m : Bytes) (vs : List ResponseValue) (items : List Item) (held left : Bytes) (end stop : End) →
    Splits m vs held end →
    SplitsPast held items left stop →
    SplitsPast m (map Taken vs ++ items) left stop × (end ≡ Waits → (items ≡ []) × (left ≡ held))

-- a feed that has skipped nothing has given responses alone
abbrev pub FedIsPassed : Type 0
FedIsPassed =
    (pieces : List Bytes) (vs : List ResponseValue) (held : Bytes) →
    Fed pieces vs held →
    Passed pieces (map Taken vs) held

-- a feed that gives no more, and skips no more, has given the outcome of all that it was fed
abbrev pub FeedsPast : Type 0
FeedsPast =
    (pieces : List Bytes) (items : List Item) (held : Bytes) (end : End) →
    Passed pieces items held →
    SplitsPast held [] held end →
    SplitsPast (joined pieces) items held end

-- so however a stream is cut into pieces, two such feeds have given the same responses and skipped the same lines, in
-- the same order, hold the same bytes, and end alike
abbrev pub PastCuttingsAlike : Type 0
PastCuttingsAlike =
    (pieces others : List Bytes) (items more : List Item) (held kept : Bytes) (end stop : End) →
    joined pieces ≡ joined others →
    Passed pieces items held →
    SplitsPast held [] held end →
    Passed others more kept →
    SplitsPast kept [] kept stop →
    (items ≡ more) × (held ≡ kept) × (end ≡ stop)
