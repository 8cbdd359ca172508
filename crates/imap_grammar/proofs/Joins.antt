-- Readers over a reader that is passed: how the answers of their parts are joined.
use Rattle.std.proofs.Common.{◌≡◌, ◌≢◌, ℕ, List, [], ◌∷◌, ◌++◌, inl, inr, Option, Some, None, Result, Ok, Err, refl, sym, ap, subst, ◌∙◌}
use Rattle.imap_grammar.specs.declared.answer.Err.{Err as Fault}
use Rattle.imap_grammar.specs.declared.answer.Err.TheVariants.{Incomplete, Error, Failure}
use Rattle.imap_grammar.specs.Meaning.{Meaning, Cuts, seq_means, many_means, gives_means}
use Rattle.imap_grammar.specs.Rule.{Rule, ◌⨾◌}
use Rattle.imap_grammar.specs.Step.{step}
use Rattle.imap_grammar.specs.Tags.{tag}
use Rattle.imap_grammar.specs.Lists.{opened_means, enclosed_means, or_memory_behind, tried_of}
use Rattle.imap_grammar.proofs.Agreement.{reads, fails}

-- what an answer that was tried says of it
some_of : {A : Type 0} (r : Result A Fault) (x : A) → tried_of r ≡ Ok (Some x) → r ≡ Ok x
some_of (Ok y) x e = cc
some_of (Err Error) x e = cc
some_of (Err Failure) x e = cc
some_of (Err (Incomplete n)) x e = cc

none_of : {A : Type 0} (r : Result A Fault) → tried_of r ≡ Ok None → r ≡ Err Error
none_of (Ok y) e = cc
none_of (Err Error) e = refl
none_of (Err Failure) e = cc
none_of (Err (Incomplete n)) e = cc

abbrev given : {A : Type 0} → Option A → Result (Option A) Fault
given o = Ok o

pub tried_some : {A : Type 0} (r : Result A Fault) (o : Option A) (x : A) → tried_of r ≡ Ok o → o ≡ Some x → r ≡ Ok x
tried_some r o x e is = some_of r x (e ∙ ap given is)

pub tried_none : {A : Type 0} (r : Result A Fault) (o : Option A) → tried_of r ≡ Ok o → o ≡ None → r ≡ Err Error
tried_none r o e is = none_of r (e ∙ ap given is)

pub tried_fault : {A : Type 0} (r : Result A Fault) (d : Fault) → tried_of r ≡ Err d → (r ≡ Err d) × (d ≢ Error)
tried_fault (Ok y) d h = cc
tried_fault (Err Error) d h = cc
tried_fault (Err Failure) d h = (cc, λ q. cc)
tried_fault (Err (Incomplete n)) d h = (cc, λ q. cc)

pub cuts_more : {A : Type 0} (a : Meaning A) (m : List ℕ) (vs : List A) (mid : List ℕ) (w : A) (rest : List ℕ) → Cuts a m vs mid → a.yields mid w rest → Cuts a m (vs ++ (w ∷ [])) rest
cuts_more a m [] mid w rest e y = (rest, subst (λ x. a.yields x w rest) (sym e) y, refl)
cuts_more a m (v ∷ vs) mid w rest e y = (e.0, e.1, cuts_more a e.0 vs mid w rest e.2 y)

-- what one more is read behind begins with one
pub cuts_begin : {A : Type 0} (a : Meaning A) (m : List ℕ) (vs : List A) (mid : List ℕ) (w : A) (rest : List ℕ) → Cuts a m vs mid → a.yields mid w rest → (x : A) × (after : List ℕ) × a.yields m x after
cuts_begin a m [] mid w rest e y = (w, rest, subst (λ k. a.yields k w rest) (sym e) y)
cuts_begin a m (v ∷ vs) mid w rest e y = (v, e.0, e.1)

-- what a loop over one A, and B as often as it yields, has read
pub record Begun {A : Type 0} (a b : Meaning A) (m : List ℕ) (items : List A) (rest : List ℕ) : Type 0 where
  pub first : A
  pub more : List A
  pub start : List ℕ
  pub are : items ≡ first ∷ more
  pub reads : a.yields m first start
  pub cuts : Cuts b start more rest

-- A, and B as often as it yields
abbrev pub then_many_means : {A : Type 0} → Meaning A → Meaning A → Meaning (List A)
then_many_means {A} a b = gives_means (λ (v : A × List A). v.0 ∷ v.1) (seq_means a (many_means b))

pub begun_more : {A : Type 0} (a b : Meaning A) (m : List ℕ) (items : List A) (rest next : List ℕ) (w : A) → Begun a b m items rest → b.yields rest w next → Begun a b m (items ++ (w ∷ [])) next
begun_more a b m items rest next w h y =
    record { first = h.first; more = h.more ++ (w ∷ []); start = h.start; are = ap (λ l. l ++ (w ∷ [])) h.are; reads = h.reads; cuts = cuts_more b h.start h.more rest w next h.cuts y }

pub begun_ends : {A : Type 0} (a b : Meaning A) (m : List ℕ) (items : List A) (rest : List ℕ) → Begun a b m items rest → b.fails rest Error → (then_many_means a b).yields m items rest
begun_ends a b m items rest h y = ((h.first, h.more), (h.start, h.reads, (h.cuts, y)), sym h.are)

pub begun_stops : {A : Type 0} (a b : Meaning A) (m : List ℕ) (items : List A) (rest : List ℕ) (d : Fault) → Begun a b m items rest → b.fails rest d → d ≢ Error → (then_many_means a b).fails m d
begun_stops a b m items rest d h f other = inr (h.first, h.start, h.reads, (h.more, rest, h.cuts, inl (f, other)))

-- ---- in brackets

abbrev open_bracket : Rule (List ℕ)
open_bracket = tag "("

pub enclosed_yields : {A C : Type 0} (close : Rule C) (a : Meaning A) (m after mid rest v : List ℕ) (x : A) (c : C) → step open_bracket m ≡ Ok (after, v) → a.yields after x mid → step close mid ≡ Ok (rest, c) → (enclosed_means close a).yields m x rest
enclosed_yields close a m after mid rest v x c o y e = ((v, x), (after, reads open_bracket m after v o, ((x, c), (mid, y, reads close mid rest c e), refl)), refl)

pub enclosed_unopened : {A C : Type 0} (close : Rule C) (a : Meaning A) (m : List ℕ) (d : Fault) → step open_bracket m ≡ Err d → (enclosed_means close a).fails m d
enclosed_unopened close a m d o = inl (fails open_bracket m d o)

pub enclosed_fails : {A C : Type 0} (close : Rule C) (a : Meaning A) (m after v : List ℕ) (d : Fault) → step open_bracket m ≡ Ok (after, v) → a.fails after d → (enclosed_means close a).fails m d
enclosed_fails close a m after v d o f = inr (v, after, reads open_bracket m after v o, inl f)

-- the same where memory may run out inside, behind what begins there
pub enclosed_stops : {O A C : Type 0} (close : Rule C) (first : Meaning O) (a : Meaning A) (m after v : List ℕ) (d : Fault) → step open_bracket m ≡ Ok (after, v) → (or_memory_behind first a).fails after d → (or_memory_behind (opened_means first) (enclosed_means close a)).fails m d
enclosed_stops close first a m after v d o f = elim f [ inl h ↦ inl (enclosed_fails close a m after v d o h) | inr q ↦ inr (q.0, q.1, q.2, ((v, q.1), (after, reads open_bracket m after v o, q.3), refl)) ]

pub enclosed_unclosed : {A C : Type 0} (close : Rule C) (a : Meaning A) (m after mid v : List ℕ) (x : A) (d : Fault) → step open_bracket m ≡ Ok (after, v) → a.yields after x mid → step close mid ≡ Err d → (enclosed_means close a).fails m d
enclosed_unclosed close a m after mid v x d o y e = inr (v, after, reads open_bracket m after v o, inr (x, mid, y, fails close mid d e))

-- ---- steps of two parts

pub first_failed : {A B : Type 0} (a : Rule A) (b : Rule B) (m : List ℕ) (d : Fault) → step a m ≡ Err d → step (a ⨾ b) m ≡ Err d
first_failed a b m d e = rw e refl

pub second_failed : {A B : Type 0} (a : Rule A) (b : Rule B) (m mid : List ℕ) (x : A) (d : Fault) → step a m ≡ Ok (mid, x) → step b mid ≡ Err d → step (a ⨾ b) m ≡ Err d
second_failed a b m mid x d e f = rw (e, f) refl

pub both_read : {A B : Type 0} (a : Rule A) (b : Rule B) (m mid rest : List ℕ) (x : A) (y : B) → step a m ≡ Ok (mid, x) → step b mid ≡ Ok (rest, y) → step (a ⨾ b) m ≡ Ok (rest, (x, y))
both_read a b m mid rest x y e f = rw (e, f) refl
