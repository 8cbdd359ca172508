-- Streams: bytes that come in pieces, and the responses that stand in them one behind another.
use Rattle.std.specs.Prelude.{◌≡◌, ◌≢◌, List, [], ◌∷◌, ◌++◌}
use Rattle.imap_grammar.specs.Meaning.{Denies, Cuts}
use Rattle.imap_grammar.specs.Rule.{meaning}
use Rattle.imap_grammar.specs.Text.{Bytes}
use Rattle.imap_proto.specs.declared.stream.End.{End}
use Rattle.imap_proto.specs.declared.stream.End.TheVariants.{Waits, Denied}
use Rattle.imap_proto.specs.Responses.{ResponseValue}
use Rattle.imap_proto.specs.Lines.{response}

-- no response stands at the front, and the bytes are not denied
abbrev pub Waiting : Bytes → Type 0
Waiting m =
    ((v : ResponseValue) (rest : Bytes) → ¬ ((meaning response).yields m v rest))
    × (¬ (Denies (meaning response) m))

-- why no response stands at the front
abbrev pub EndsAs : Bytes → End → Type 0
EndsAs m Waits = Waiting m
EndsAs m Denied = Denies (meaning response) m

-- The split of m: the responses vs stand at its front, one behind another, and behind them is left what begins with no
-- response.
pub record Splits (m : Bytes) (vs : List ResponseValue) (left : Bytes) (end : End) : Type 0 where
  pub responses : Cuts (meaning response) m vs left
  pub ends : EndsAs left end

-- pieces, one behind another
abbrev pub joined : List Bytes → Bytes
joined [] = []
joined (piece ∷ pieces) = piece ++ joined pieces

-- Of a feed: the pieces that it was fed, the responses that it has given, and the bytes that it holds. It may be fed
-- and asked in any order; a piece goes behind what it holds, and a response that it gives stood at the front.
pub data Fed : List Bytes → List ResponseValue → Bytes → Type 0 where
  empty : Fed [] [] []
  fed :
      (pieces : List Bytes) (vs : List ResponseValue) (held piece : Bytes) → Fed pieces vs held →
      Fed (pieces ++ piece ∷ []) vs (held ++ piece)
  gave :
      (pieces : List Bytes) (vs : List ResponseValue) (held : Bytes) (v : ResponseValue)
      (rest : Bytes) →
      Fed pieces vs held → (meaning response).yields held v rest → Fed pieces (vs ++ v ∷ []) rest

-- ---- laws

-- all bytes have a split
abbrev pub SomeSplit : Type 0
SomeSplit =
    (m : Bytes) → (vs : List ResponseValue) × (left : Bytes) × (end : End) × Splits m vs left end

-- and one only
abbrev pub OneSplit : Type 0
OneSplit =
    (m : Bytes) (vs ws : List ResponseValue) (left other : Bytes) (end stop : End) →
    Splits m vs left end →
    Splits m ws other stop →
    (vs ≡ ws) × (left ≡ other) × (end ≡ stop)

-- what a response consumed waits, until its last byte is there
abbrev pub BeginningsWait : Type 0
BeginningsWait =
    (front more rest : Bytes) (v : ResponseValue) →
    (meaning response).yields (front ++ (more ++ rest)) v rest →
    more ≢ [] →
    Waiting front

-- behind more bytes the split goes on where it ended
abbrev pub SplitsGoOn : Type 0
SplitsGoOn =
    (a b : Bytes) (vs ws : List ResponseValue) (held left : Bytes) (end stop : End) →
    Splits a vs held end →
    Splits (held ++ b) ws left stop →
    Splits (a ++ b) (vs ++ ws) left stop

-- a feed that gives no more has given the split of all that it was fed
abbrev pub FeedsSplit : Type 0
FeedsSplit =
    (pieces : List Bytes) (vs : List ResponseValue) (held : Bytes) (end : End) →
    Fed pieces vs held →
    EndsAs held end →
    Splits (joined pieces) vs held end

-- so however a stream is cut into pieces, two feeds that give no more have given the same responses, hold the same
-- bytes, and end alike
abbrev pub CuttingsAlike : Type 0
CuttingsAlike =
    (pieces others : List Bytes) (vs ws : List ResponseValue) (held kept : Bytes) (end stop : End) →
    joined pieces ≡ joined others →
    Fed pieces vs held →
    EndsAs held end →
    Fed others ws kept →
    EndsAs kept stop →
    (vs ≡ ws) × (held ≡ kept) × (end ≡ stop)
