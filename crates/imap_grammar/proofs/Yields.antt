-- What holds of each value that a rule yields, from its parts.
use Rattle.std.proofs.Common.{ℕ, List, [], ◌∷◌, subst, inl, inr}
use Rattle.std.specs.List.{All}
use Rattle.std.proofs.lemmas.List.Elements.{All-nil, All-cons}
use Rattle.imap_grammar.specs.Meaning.{Cuts}
use Rattle.imap_grammar.specs.Rule.{Rule, meaning, gives, nothing, many, list1, ◌⨾◌, ◌▹◌, ◌◃◌, ◌or◌}

pub record Yields {V : Type 0} (P : V → Type 0) (r : Rule V) : Type 0 where
  pub each : (m : List ℕ) (v : V) (rest : List ℕ) → (meaning r).yields m v rest → P v

pub either_yields : {V : Type 0} {P : V → Type 0} {a b : Rule V} → Yields P a → Yields P b → Yields P (a or b)
unfolding meaning
either_yields p q = record { each = λ m v rest y. elim y [ inl h ↦ p.each m v rest h | inr h ↦ q.each m v rest h.1 ] }

pub given_yields : {A B : Type 0} {Q : A → Type 0} {P : B → Type 0} (f : A → B) {a : Rule A} → Yields Q a → ((x : A) → Q x → P (f x)) → Yields P (gives f a)
unfolding meaning
given_yields {P = P} f q h = record { each = λ m v rest y. subst P y.2 (h y.0 (q.each m y.0 rest y.1)) }

-- of a value that f makes, whatever of
pub made_yields : {A B : Type 0} {P : B → Type 0} (f : A → B) {a : Rule A} → ((x : A) → P (f x)) → Yields P (gives f a)
unfolding meaning
made_yields {P = P} f h = record { each = λ m v rest y. subst P y.2 (h y.0) }

pub named_yields : {S V : Type 0} {P : V → Type 0} {a : Rule S} {x : V} → P x → Yields P (a ▹ nothing x)
unfolding meaning
named_yields {P = P} h = record { each = λ m v rest y. subst P y.2 (subst P y.1.2.0 h) }

pub both_yield : {A B : Type 0} {P : A → Type 0} {Q : B → Type 0} {a : Rule A} {b : Rule B} → Yields P a → Yields Q b → Yields (λ v. P v.0 × Q v.1) (a ⨾ b)
unfolding meaning
both_yield p q = record { each = λ m v rest y. (p.each m v.0 y.0 y.1, q.each y.0 v.1 rest y.2) }

pub second_yields : {A B : Type 0} {Q : B → Type 0} {a : Rule A} {b : Rule B} → Yields Q b → Yields (λ v. Q v.1) (a ⨾ b)
unfolding meaning
second_yields q = record { each = λ m v rest y. q.each y.0 v.1 rest y.2 }

pub right_yields : {A B : Type 0} {Q : B → Type 0} {a : Rule A} {b : Rule B} → Yields Q b → Yields Q (a ▹ b)
unfolding meaning
right_yields {Q = Q} q = record { each = λ m v rest y. subst Q y.2 (q.each y.1.0 y.0.1 rest y.1.2) }

pub left_yields : {A B : Type 0} {P : A → Type 0} {a : Rule A} {b : Rule B} → Yields P a → Yields P (a ◃ b)
unfolding meaning
left_yields {P = P} p = record { each = λ m v rest y. subst P y.2 (p.each m y.0.0 y.1.0 y.1.1) }

cuts_all : {A : Type 0} (P : A → Type 0) (a : Rule A) → Yields P a → (vs : List A) (m rest : List ℕ) → Cuts (meaning a) m vs rest → All P vs
cuts_all P a p [] m rest y = All-nil P
cuts_all P a p (x ∷ vs) m rest y = All-cons P x vs (p.each m x y.0 y.1) (cuts_all P a p vs y.0 rest y.2)

pub many_yield : {A : Type 0} {P : A → Type 0} {a : Rule A} → Yields P a → Yields (All P) (many a)
unfolding meaning
many_yield {P = P} {a = a} p = record { each = λ m vs rest y. cuts_all P a p vs m rest y.0 }

pub list_yields : {S A : Type 0} (P : A → Type 0) {s : Rule S} {a : Rule A} → Yields P a → Yields (All P) (list1 s a)
list_yields {A = A} P p = given_yields (λ (v : A × List A). v.0 ∷ v.1) (both_yield p (many_yield (right_yields p))) (λ v h. All-cons P v.0 v.1 h.0 h.1)
