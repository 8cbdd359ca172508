-- Readers over a reader of positions that is passed: how the answers of their parts are joined.
use Rattle.std.proofs.Common.{◌≡◌, ℕ, ◌≤◌, List, length, drop, inr, Ok, Err, refl, sym, subst}
use Rattle.imap_grammar.specs.declared.answer.Err.{Err as Fault}
use Rattle.imap_grammar.specs.Meaning.{Meaning}
use Rattle.imap_grammar.specs.Lists.{behind_means}
use Rattle.imap_grammar.specs.Positions.{Reached}
use Rattle.imap_grammar.specs.PositionLists.{called_at, AllowsAt, FollowsAt}

pub stopped_at : {O V A : Type 0} {form : Meaning O → Meaning V} {answers : ℕ → Reached O → Type 0} {view : A → V} {m : List ℕ} {p : ℕ} {result : Reached A} (d : Fault)
    → result ≡ Err d → (form (called_at m answers)).fails (drop p m) d → FollowsAt form answers view m p result
stopped_at {form = form} {answers = answers} {view = view} {m = m} {p = p} d is f = subst (FollowsAt form answers view m p) (sym is) (record { met = f })

pub fault_at : {O V A : Type 0} {form : Meaning O → Meaning V} {answers : ℕ → Reached O → Type 0} {view : A → V} {m : List ℕ} {p : ℕ} {result : Reached A} (d : Fault)
    → FollowsAt form answers view m p result → result ≡ Err d → (form (called_at m answers)).fails (drop p m) d
fault_at {form = form} {answers = answers} {view = view} {m = m} {p = p} d h is = (subst (FollowsAt form answers view m p) is h).met

pub found_at : {O V A : Type 0} {form : Meaning O → Meaning V} {answers : ℕ → Reached O → Type 0} {view : A → V} {m : List ℕ} {p : ℕ} {result : Reached A} (x : ℕ × A)
    → FollowsAt form answers view m p result → result ≡ Ok x → (form (called_at m answers)).yields (drop p m) (view x.1) (drop x.0 m)
found_at {form = form} {answers = answers} {view = view} {m = m} {p = p} x h is = (subst (FollowsAt form answers view m p) is h).met

pub told_at : {O V A : Type 0} {form : Meaning O → Meaning V} {answers : ℕ → Reached O → Type 0} {view : A → V} {m : List ℕ} {p : ℕ} {result : Reached A}
    → AllowsAt (form (called_at m answers)) view m p result → FollowsAt form answers view m p result
told_at h = record { met = h }

pub behind_told_at : {S O : Type 0} (s : Meaning S) (answers : ℕ → Reached O → Type 0) (m : List ℕ) (p k : ℕ) (x : S) (result : Reached O) → s.yields (drop p m) x (drop k m) → k ≤ length m → answers k result → FollowsAt (behind_means s) answers (λ y. y) m p result
behind_told_at s answers m p k x (Ok y) one le two = record { met = ((x, y.1), (drop k m, one, (k, y.0, refl, le, refl, two)), refl) }
behind_told_at s answers m p k x (Err d) one le two = record { met = inr (x, drop k m, one, (k, refl, le, two)) }

pub called_told_at : {O : Type 0} (answers : ℕ → Reached O → Type 0) (m : List ℕ) (p : ℕ) (result : Reached O) → p ≤ length m → answers p result → FollowsAt (λ a. a) answers (λ y. y) m p result
called_told_at answers m p (Ok y) le one = record { met = (p, y.0, refl, le, refl, one) }
called_told_at answers m p (Err d) le one = record { met = (p, refl, le, one) }
