-- What stands at the front of the bytes, one behind another, by any rule.
use Rattle.std.proofs.Common.{◌≡◌, ℕ, zero, suc, ◌<◌, true, List, [], ◌∷◌, ◌++◌, length, Ok, Err, refl, sym, ap, subst, ◌∙◌, arith}
use Rattle.imap_grammar.specs.Meaning.{Cuts}
use Rattle.imap_grammar.specs.Rule.{Rule, meaning}
use Rattle.imap_grammar.specs.Step.{Step, step}
use Rattle.imap_grammar.specs.Text.{Bytes}
use Rattle.imap_grammar.proofs.Agreement.{agrees}
use Rattle.imap_grammar.proofs.Consumption.{consumes, less}
use Rattle.imap_grammar.proofs.Stability.{is_stable}

-- none stands there
abbrev pub NoneAt : {V : Type 0} → Rule V → Bytes → Type 0
NoneAt {V} r m = (v : V) (rest : Bytes) → ¬ ((meaning r).yields m v rest)

pub more_behind : {V : Type 0} (r : Rule V) (m t : Bytes) (vs : List V) (left : Bytes) → Cuts (meaning r) m vs left → Cuts (meaning r) (m ++ t) vs (left ++ t)
more_behind r m t [] left c = ap (λ (k : Bytes). k ++ t) c
more_behind r m t (v ∷ vs) left c = (c.0 ++ t, (is_stable r).yields_more m v c.0 t c.1, more_behind r c.0 t vs left c.2)

pub both : {V : Type 0} (r : Rule V) (m mid left : Bytes) (vs ws : List V) → Cuts (meaning r) m vs mid → Cuts (meaning r) mid ws left → Cuts (meaning r) m (vs ++ ws) left
both r m mid left [] ws c d = subst (λ k. Cuts (meaning r) k ws left) (sym c) d
both r m mid left (v ∷ vs) ws c d = (c.0, c.1, both r c.0 mid left vs ws c.2 d)

pub one : {V : Type 0} (r : Rule V) (m rest : Bytes) (v : V) → (meaning r).yields m v rest → Cuts (meaning r) m (v ∷ []) rest
one r m rest v y = (rest, y, refl)

-- up to where none stands, they are one list
pub same : {V : Type 0} (r : Rule V) (vs ws : List V) (m left other : Bytes) → Cuts (meaning r) m vs left → NoneAt r left → Cuts (meaning r) m ws other → NoneAt r other → (vs ≡ ws) × (left ≡ other)
same r [] [] m left other c e d f = (refl, sym c ∙ d)
same r [] (w ∷ ws) m left other c e d f = absurd (subst (NoneAt r) (sym c) e w d.0 d.1)
same r (v ∷ vs) [] m left other c e d f = absurd (subst (NoneAt r) (sym d) f v c.0 c.1)
same r (v ∷ vs) (w ∷ ws) m left other c e d f =
    let first = (is_stable r).one_yield m v w c.0 d.0 c.1 d.1 in
    let rest = same r vs ws c.0 left other c.2 e (subst (λ k. Cuts (meaning r) k ws other) (sym first.1) d.2) f in
    (rw (first.0, rest.0) refl, rest.1)

-- what a rule that takes a byte yields, up to where none stands
abbrev All : {V : Type 0} → Rule V → Bytes → Type 0
All {V} r m = (vs : List V) × (left : Bytes) × Cuts (meaning r) m vs left × NoneAt r left

all_within : {V : Type 0} (r : Rule V) → consumes r ≡ true → (fuel : ℕ) (m : Bytes) → length m < fuel → All r m
all_within r takes zero m lt = absurd (omega arith)
all_within {V} r takes (suc fuel) m lt = go (step r m) refl (λ k h. all_within r takes fuel k h)
  where
    go : (s : Step V) → step r m ≡ s → ((k : Bytes) → length k < fuel → All r k) → All r m
    go (Ok x) e behind =
        let a = behind x.0 (omega (arith, less r m x.0 x.1 takes e, lt)) in
        (x.1 ∷ a.0, a.1, (x.0, (agrees r m).yielded x.1 x.0 e, a.2), a.3)
    go (Err f) e behind = ([], m, refl, λ v rest y. let g = sym e ∙ (agrees r m).yields v rest y in cc)

pub all : {V : Type 0} (r : Rule V) → consumes r ≡ true → (m : Bytes) → All r m
all r takes m = all_within r takes (suc (length m)) m (omega arith)
