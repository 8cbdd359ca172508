-- What holds texts, with each of them owned, and what it says so.
use Rattle.std.specs.Prelude.{◌≡◌}
use Rattle.imap_grammar.specs.Text.{Text, owned_text}

-- where f says a text, the same text owned
abbrev pub owned_by : {S : Type 0} → (S → Text) → S → Text
owned_by f s = owned_text (f s)

-- Seen with its texts owned, x says the same as it does. (Two values say the same where `lent` makes them equal.)
abbrev pub OwnedSaysSame : {X V : Type 0} → (V → V) → (X → V) → (X → V) → Type 0
OwnedSaysSame {X} lent owned seen = (x : X) → lent (owned x) ≡ lent (seen x)

-- Of two that say the same, the owned forms are one, whichever of their texts are borrowed.
abbrev pub OwnedAlike : {X V : Type 0} → (V → V) → (X → V) → (X → V) → Type 0
OwnedAlike {X} lent owned seen = (x y : X) → lent (seen x) ≡ lent (seen y) → owned x ≡ owned y
