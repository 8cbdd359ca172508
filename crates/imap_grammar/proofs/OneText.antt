-- Values that say the same have one canonical text, since borrowing the texts of a value leaves its canonical text.
use Rattle.std.proofs.Common.{◌≡◌, [], ◌∷◌, None, Some, map, refl, sym, ap, ap₂, ◌∙◌}
use Rattle.std.specs.Option.{option_map}
use Rattle.imap_grammar.specs.Pieces.{Pieces, ◌then◌, words, each, separated, list_text, ntext}
use Rattle.imap_grammar.specs.ReadBack.{HasOneText}
use Rattle.imap_grammar.specs.Text.{lent_text}

-- to borrow its texts leaves its canonical text
abbrev pub Keeps : {V : Type 0} → (V → V) → (V → Pieces) → Type 0
Keeps {V} lent canonical = (v : V) → canonical (lent v) ≡ canonical v

pub one_text : {V : Type 0} (lent : V → V) (canonical : V → Pieces) → Keeps lent canonical → HasOneText lent canonical
one_text lent canonical keeps v w same = sym (keeps v) ∙ ap canonical same ∙ keeps w

-- ---- lists, and what may be missing

pub each_keeps : {V : Type 0} (lent : V → V) (canonical : V → Pieces) → Keeps lent canonical → Keeps (map lent) (each canonical)
each_keeps lent canonical keeps [] = refl
each_keeps lent canonical keeps (v ∷ vs) = ap₂ (λ x y. x then y) (keeps v) (each_keeps lent canonical keeps vs)

pub separated_keeps : {V : Type 0} (between : Pieces) (lent : V → V) (canonical : V → Pieces) → Keeps lent canonical → Keeps (map lent) (separated between canonical)
separated_keeps between lent canonical keeps [] = refl
separated_keeps between lent canonical keeps (v ∷ vs) = ap₂ (λ x y. x then y) (keeps v) (each_keeps lent (λ w. between then canonical w) (λ w. ap (λ x. between then x) (keeps w)) vs)

pub list_keeps : {V : Type 0} (lent : V → V) (canonical : V → Pieces) → Keeps lent canonical → Keeps (map lent) (list_text canonical)
list_keeps lent canonical keeps vs = ap (λ x. words "(" then x then words ")") (separated_keeps (words " ") lent canonical keeps vs)

pub ntext_keeps : Keeps (option_map lent_text) ntext
ntext_keeps None = refl
ntext_keeps (Some t) = refl
