-- Equality of types that are generic in their texts.
use Rattle.std.specs.Prelude.{Bool}
use Rattle.imap_grammar.specs.Equality.{Tells}
use Rattle.imap_grammar.specs.Text.{Text, lent_text}

-- If `==` of texts answers whether f says the same of both, borrowed or owned, then `==` of what holds such texts
-- answers whether the two, their texts seen by f, say the same.
abbrev pub TellsByTexts :
    {S X V : Type 0} → (S → S → Bool) → (X → X → Bool) → (V → V) → ((S → Text) → X → V) → Type 0
TellsByTexts {S} texts_eq eq lent seen =
    (f : S → Text) → Tells texts_eq (λ s. lent_text (f s)) → Tells eq (λ x. lent (seen f x))
