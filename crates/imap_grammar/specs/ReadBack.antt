-- The two laws of a rule and the texts of its values: what it takes spells the value, and the canonical text gives the
-- value again.
use Rattle.std.specs.Prelude.{ℕ, Bool, ◌≡◌, ◌==◌, ◌||◌, ◌++◌, IsTrue}
use Rattle.imap_grammar.specs.Ascii.{carriage_return, space, close_parenthesis}
use Rattle.imap_grammar.specs.Text.{Bytes}
use Rattle.imap_grammar.specs.Meaning.{Denies, begins}
use Rattle.imap_grammar.specs.Rule.{Rule, meaning}
use Rattle.imap_grammar.specs.Pieces.{Pieces, written, Fits}

-- a set of byte texts
abbrev pub Texts : Type 1
Texts = Bytes → Type 0

-- What the rule takes spells its value.
pub record Spells {V : Type 0} (r : Rule V) (spells : V → Texts) : Type 0 where
  pub consumed :
      (m : Bytes) (v : V) (rest : Bytes) → (meaning r).yields m v rest →
      (c : Bytes) × (m ≡ c ++ rest) × spells v c

-- A value that the rule yields on some bytes it yields again on its canonical text, with all texts borrowed,
-- and leaves exactly what follows, for all bytes that may follow; save where a literal is too long to be counted.
pub record ReadsBack {V : Type 0}
    (r : Rule V) (lent : V → V) (canonical : V → Pieces) (may_follow : Texts) :
    Type 0 where
  pub again :
      (m : Bytes) (v : V) (rest : Bytes) → (meaning r).yields m v rest → Fits (canonical v) →
      (t : Bytes) → may_follow t
      → (meaning r).yields (written (canonical v) ++ t) (lent v) t

-- Both.
pub record SpellsAndReadsBack {V : Type 0}
    (r : Rule V) (lent : V → V) (canonical : V → Pieces) (spells : V → Texts)
    (may_follow : Texts) :
    Type 0 where
  pub spelled : Spells r spells
  pub back : ReadsBack r lent canonical may_follow

-- Values that say the same have one canonical text: it doesn't depend on which of their texts are borrowed.
abbrev pub HasOneText : {V : Type 0} → (V → V) → (V → Pieces) → Type 0
HasOneText {V} lent canonical = (v w : V) → lent v ≡ lent w → canonical v ≡ canonical w

-- a value that holds no text
abbrev pub as_is : {V : Type 0} → V → V
as_is v = v

-- ---- what may follow

-- any bytes
abbrev pub Any : Texts
Any t = Unit {0}

-- bytes of which the first is of a class
abbrev pub BeginsWith : (ℕ → Bool) → Texts
BeginsWith p t = IsTrue (begins p t)

-- `)` or CR
abbrev pub closes : ℕ → Bool
closes b = (b == close_parenthesis) || (b == carriage_return)

-- `)`, CR or SP
abbrev pub ends_item : ℕ → Bool
ends_item b = (b == close_parenthesis) || (b == carriage_return) || (b == space)

abbrev pub Closes : Texts
Closes = BeginsWith closes

abbrev pub EndsItem : Texts
EndsItem = BeginsWith ends_item

-- ---- parts of a proof

-- The rule takes these pieces, whatever value it gives.
pub record Takes {V : Type 0} (r : Rule V) (pieces : Pieces) (may_follow : Texts) : Type 0 where
  pub taken :
      Fits pieces → (t : Bytes) → may_follow t →
      (v : V) × (meaning r).yields (written pieces ++ t) v t

-- What the first rule denied and the second yielded, the first denies in canonical text too.
pub record Apart {V W : Type 0}
    (a : Rule V) (b : Rule W) (canonical : W → Pieces) (may_follow : Texts) :
    Type 0 where
  pub denied :
      (m : Bytes) (v : W) (rest : Bytes) → Denies (meaning a) m → (meaning b).yields m v rest →
      Fits (canonical v) → (t : Bytes) → may_follow t →
      Denies (meaning a) (written (canonical v) ++ t)

-- The same as `ReadsBack` for the values of which P holds.
pub record ReadsBackIf {V : Type 0}
    (P : V → Type 0) (r : Rule V) (lent : V → V) (canonical : V → Pieces) (may_follow : Texts) :
    Type 0 where
  pub again :
      (m : Bytes) (v : V) (rest : Bytes) → (meaning r).yields m v rest → P v → Fits (canonical v) →
      (t : Bytes) → may_follow t
      → (meaning r).yields (written (canonical v) ++ t) (lent v) t
