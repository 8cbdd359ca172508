-- A word and then a value made of what follows it, as a value made of what follows the word: the two rules yield the
-- same.
use Rattle.std.proofs.Common.{◌≡◌, ◌∙◌, ap, refl}
use Rattle.imap_grammar.specs.Rule.{Rule, meaning, gives, ◌▹◌}
use Rattle.imap_grammar.specs.Text.{Bytes}
use Rattle.imap_grammar.specs.Pieces.{Pieces}
use Rattle.imap_grammar.specs.ReadBack.{Texts, SpellsAndReadsBack, Apart}
use Rattle.imap_grammar.proofs.Keeping.{keeps-gives}

pub record Alike {V : Type 0} (a b : Rule V) : Type 0 where
  pub to : (m : Bytes) (v : V) (rest : Bytes) → (meaning a).yields m v rest → (meaning b).yields m v rest
  pub from : (m : Bytes) (v : V) (rest : Bytes) → (meaning b).yields m v rest → (meaning a).yields m v rest

pub given_behind : {S A B : Type 0} (s : Rule S) (f : A → B) (a : Rule A) → Alike (s ▹ gives f a) (gives f (s ▹ a))
unfolding meaning
given_behind s f a = record {
  to = λ m v rest y. let z = y.1.2 in (z.0, ((y.0.0, z.0), (y.1.0, y.1.1, z.1), refl), z.2 ∙ y.2);
  from = λ m v rest y. let z = y.1 in ((z.0.0, v), (z.1.0, z.1.1, (z.0.1, z.1.2, ap f z.2 ∙ y.2)), refl);
}

pub alike_behind : {S A : Type 0} (s : Rule S) {a b : Rule A} → Alike a b → Alike (s ▹ a) (s ▹ b)
unfolding meaning
alike_behind s h = record {
  to = λ m v rest y. (y.0, (y.1.0, y.1.1, h.to y.1.0 y.0.1 rest y.1.2), y.2);
  from = λ m v rest y. (y.0, (y.1.0, y.1.1, h.from y.1.0 y.0.1 rest y.1.2), y.2);
}

pub alike_through : {A : Type 0} {a b c : Rule A} → Alike a b → Alike b c → Alike a c
alike_through h k = record { to = λ m v rest y. k.to m v rest (h.to m v rest y); from = λ m v rest y. h.from m v rest (k.from m v rest y) }

module _ {A : Type 0} {a b : Rule A} {l : A → A} {c : A → Pieces} {T : A → Texts} {F : Texts} where
  pub keeps-alike : Alike a b → SpellsAndReadsBack b l c T F → SpellsAndReadsBack a l c T F
  keeps-alike same h = record {
    spelled = record { consumed = λ m v rest y. h.spelled.consumed m v rest (same.to m v rest y) };
    back = record { again = λ m v rest y f t g. same.from _ (l v) t (h.back.again m v rest (same.to m v rest y) f t g) };
  }

module _ {V W : Type 0} {a : Rule V} {b b' : Rule W} {c : W → Pieces} {F : Texts} where
  pub apart-alike : Alike b b' → Apart a b' c F → Apart a b c F
  apart-alike same h = record { denied = λ m v rest d y f t g. h.denied m v rest d (same.to m v rest y) f t g }

-- ---- at the word

module _ {S A B : Type 0} {s : Rule S} {a : Rule A} {la : A → A} {l : B → B} {c : B → Pieces} {T : B → Texts} {F : Texts} where
  pub keeps-behind : (f : A → B) → SpellsAndReadsBack (s ▹ a) la (λ x. c (f x)) (λ x. T (f x)) F → ((x : A) → f (la x) ≡ l (f x)) → SpellsAndReadsBack (s ▹ gives f a) l c T F
  keeps-behind f h law = keeps-alike (given_behind s f a) (keeps-gives f h law)

module _ {V S A B : Type 0} {e : Rule V} {c : B → Pieces} {F : Texts} where
  pub apart-behind : (s : Rule S) (f : A → B) (a : Rule A) → Apart e (gives f (s ▹ a)) c F → Apart e (s ▹ gives f a) c F
  apart-behind s f a h = apart-alike (given_behind s f a) h
