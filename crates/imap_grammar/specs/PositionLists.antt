-- Lists over a reader of positions that is passed.
use Rattle.std.specs.Prelude.{◌≡◌, ℕ, ◌<◌, ◌≤◌, List, length, drop, Ok, Err}
use Rattle.std.specs.Borrow.{Bor}
use Rattle.imap_grammar.specs.Meaning.{Meaning}
use Rattle.imap_grammar.specs.Answer.{Returned}
use Rattle.imap_grammar.specs.Positions.{Reached}

-- what the calls of a reader may answer at positions of m, as a meaning
abbrev pub called_at : {O : Type 0} → List ℕ → (ℕ → Reached O → Type 0) → Meaning O
called_at {O} m answers =
    record {
      yields =
          λ i v rest.
          (p q : ℕ) × (i ≡ drop p m) × (p ≤ length m) × (rest ≡ drop q m) × answers p (Ok (q, v));
      fails = λ i e. (p : ℕ) × (i ≡ drop p m) × (p ≤ length m) × answers p (Err e);
    }

-- each position that a call hands back is behind the one it was given, and not past m's end
pub record Advances {O : Type 0} (m : List ℕ) (answers : ℕ → Reached O → Type 0) : Type 0 where
  pub further : (p q : ℕ) (v : O) → p ≤ length m → answers p (Ok (q, v)) → (p < q) × (q ≤ length m)

-- each position that a call hands back is not before the one it was given, and not past m's end
pub record KeepsAhead {O : Type 0} (m : List ℕ) (answers : ℕ → Reached O → Type 0) : Type 0 where
  pub as_far : (p q : ℕ) (v : O) → p ≤ length m → answers p (Ok (q, v)) → (p ≤ q) × (q ≤ length m)

abbrev pub AllowsAt : {A V : Type 0} → Meaning V → (A → V) → List ℕ → ℕ → Reached A → Type 0
AllowsAt r view m p (Ok x) = r.yields (drop p m) (view x.1) (drop x.0 m)
AllowsAt r view m p (Err e) = r.fails (drop p m) e

-- A reader of this form answers at p as the form says, of the answers that the passed reader may give.
pub record FollowsAt {O V A : Type 0}
    (form : Meaning O → Meaning V) (answers : ℕ → Reached O → Type 0) (view : A → V) (m : List ℕ)
    (p : ℕ) (result : Reached A) :
    Type 0 where
  pub met : AllowsAt (form (called_at m answers)) view m p result

-- it went on
abbrev pub Onward : {A : Type 0} → List ℕ → ℕ → Reached A → Type 0
Onward m p (Ok x) = (p < x.0) × (x.0 ≤ length m)
Onward m p (Err e) = Unit {0}

-- what a reader of slices answers that is called on m from p, the rest being a position
abbrev pub CalledAt :
    {O : Type 0} → (List ℕ → Returned O → Type 0) → List ℕ → ℕ → Reached O → Type 0
CalledAt answers m p (Ok x) =
    (left : Bor (List ℕ)) × (drop x.0 m ≡ left.now) × answers (drop p m) (Ok (left, x.1))
CalledAt answers m p (Err e) = answers (drop p m) (Err e)
