-- What is kept of what was found in a message.
use Rattle.std.specs.Prelude.{◌≡◌}
use Rattle.imap_grammar.specs.Text.{Bytes}
use Rattle.imap_grammar.specs.Positions.{named_in}
use Rattle.imap_body_types.specs.Spans.{Lookup}

-- y is kept of x, which was found in m: in m, y stands for the same value as x (`is`). And where x stands for the same
-- value by two ways to look spans up, so does y (`rests`): y has no spans but those of x.
pub record IsKeptOf {A B V : Type 0}
    (found : Lookup → A → V) (kept : Lookup → B → V) (m : Bytes) (x : A) (y : B) :
    Type 0 where
  pub is : kept (named_in m) y ≡ found (named_in m) x
  pub rests : (n k : Lookup) → found n x ≡ found k x → kept n y ≡ kept k y
