-- Readers of lists over slices, by those over positions: what a reader of slices answers, called at positions of a
-- message.
use Rattle.std.proofs.Common.{◌≡◌, ℕ, ◌-◌, ◌≤◌, ◌<◌, ◌++◌, ◌+◌, List, length, drop, map, Option, Some, None, inl, inr, Ok, Err, refl, sym, ap, subst, ◌∙◌, arith}
use Rattle.std.specs.Option.{option_map}
use Rattle.std.specs.Borrow.{Bor}
use Rattle.std.proofs.lemmas.List.{map-id, length-append, length-drop, drop-drop, drop_at}
use Rattle.imap_grammar.specs.declared.answer.Err.{Err as Fault}
use Rattle.imap_grammar.specs.Meaning.{Meaning, many_means}
use Rattle.imap_grammar.specs.Rule.{meaning, opt, ◌⨾◌}
use Rattle.imap_grammar.specs.Answer.{Returned}
use Rattle.imap_grammar.specs.Tags.{tag, sp, blanks0}
use Rattle.imap_grammar.specs.Lists.{called, Shortens, Follows, or_memory_behind, flat, opt_means, list1_means, list0_means, opened_means, list_means, nonempty_list_means, delimited_means, opt_opt_means}
use Rattle.imap_grammar.specs.Positions.{Reached, Ahead}
use Rattle.imap_grammar.specs.PositionLists.{called_at, Advances, FollowsAt, CalledAt}
use Rattle.imap_grammar.proofs.Positions.{further}
use Rattle.imap_grammar.proofs.Under.{Under, All, gives_under, opt_under, many_under, list1_under, list0_under, opened_under, enclosed_under}

-- an end of what is left at k stands at a position
pub ended : (m i left front : List ℕ) (k : ℕ) → k ≤ length m → i ≡ drop k m → i ≡ front ++ left → (length left ≤ length m) × (drop (length m - length left) m ≡ left) × (k ≤ length m - length left)
ended m i left front k le is cut =
    let sizes : length m ≡ k + length front + length left = omega (arith, le, ap length is, ap length cut, length-drop k m, length-append front left) in
    let e : length m - length left ≡ k + length front = omega (arith, sizes) in
    (omega (arith, sizes), ap (λ n. drop n m) e ∙ sym (drop-drop (length front) k m) ∙ ap (drop (length front)) (sym is ∙ cut) ∙ drop_at front left (length front) refl, omega (arith, sizes))

-- what is called at positions answers as the reader of slices
abbrev pub CallsAt : {O : Type 0} → (List ℕ → Returned O → Type 0) → List ℕ → (ℕ → Reached O → Type 0) → Type 0
CallsAt {O} answers m calls = (p : ℕ) (r : Reached O) → p ≤ length m → calls p r → CalledAt answers m p r

pub sliced_under : {O : Type 0} (answers : List ℕ → Returned O → Type 0) (m : List ℕ) (calls : ℕ → Reached O → Type 0) → CallsAt answers m calls → Under All (λ x. x) (called_at m calls) (called answers)
sliced_under answers m calls says = record {
  error = tt;
  yields = λ i v rest y. let s = says y.0 (Ok (y.1, v)) y.3 y.5 in (s.0, y.4 ∙ s.1, subst (λ l. answers l (Ok (s.0, v))) (sym y.2) s.2);
  fails = λ i e o f. subst (λ l. answers l (Err e)) (sym f.1) (says f.0 (Err e) f.2 f.3);
}

-- ---- the forms of lists, over values that are seen as they are

-- the answers of one meaning are answers of another
abbrev pub Within : {A : Type 0} → Meaning A → Meaning A → Type 0
Within a b = Under All (λ x. x) a b

-- so are those of lists over them, where memory may run out behind what begins these
lists_within : {O A : Type 0} {first begun : Meaning O} (a b : Meaning (List A)) → Within first begun → Under All (map (λ x. x)) a b → Within (or_memory_behind first a) (or_memory_behind begun b)
lists_within a b begins u = record {
  error = tt;
  yields = λ m x rest y. subst (λ v. b.yields m v rest) (map-id x) (u.yields m x rest y);
  fails = λ m e o f. elim f [ inl h ↦ inl (u.fails m e o h) | inr q ↦ inr (q.0, q.1, q.2, begins.yields m q.1 q.2 q.3) ];
}

module _ {A : Type 0} {a b : Meaning A} where
  pub many_within : Within a b → Within (or_memory_behind a (many_means a)) (or_memory_behind b (many_means b))
  many_within u = lists_within _ _ u (many_under (λ x. x) a b u)

  pub list1_within : {S : Type 0} (s : Meaning S) → Within a b → Within (or_memory_behind a (list1_means s a)) (or_memory_behind b (list1_means s b))
  list1_within s u = lists_within _ _ u (list1_under s (λ x. x) a b u)

  pub list0_within : {S : Type 0} (s : Meaning S) → Within a b → Within (or_memory_behind a (list0_means s a)) (or_memory_behind b (list0_means s b))
  list0_within s u = lists_within _ _ u (list0_under s (λ x. x) a b u)

  opened_within : Within a b → Within (opened_means a) (opened_means b)
  opened_within u = opened_under (λ x. x) a b u

  pub list_within : Within a b → Within (or_memory_behind (opened_means a) (list_means a)) (or_memory_behind (opened_means b) (list_means b))
  list_within u = lists_within _ _ (opened_within u) (enclosed_under (opt sp ⨾ tag ")") (map (λ x. x)) (list0_means (meaning sp) a) (list0_means (meaning sp) b) (list0_under (meaning sp) (λ x. x) a b u))

  pub nonempty_list_within : Within a b → Within (or_memory_behind (opened_means a) (nonempty_list_means a)) (or_memory_behind (opened_means b) (nonempty_list_means b))
  nonempty_list_within u = lists_within _ _ (opened_within u) (enclosed_under (blanks0 ⨾ tag ")") (map (λ x. x)) (list1_means (meaning sp) a) (list1_means (meaning sp) b) (list1_under (meaning sp) (λ x. x) a b u))

  pub delimited_within : Within a b → Within (delimited_means a) (delimited_means b)
  delimited_within u = enclosed_under (tag ")") (λ x. x) a b u

pub opt_opt_within : {A : Type 0} {a b : Meaning (Option A)} → Within a b → Within (opt_opt_means a) (opt_opt_means b)
opt_opt_within {a = a} {b = b} u = gives_under (option_map (λ x. x)) (λ x. x) flat flat (opt_means a) (opt_means b) flattened (opt_under (λ x. x) a b u)
  where
    flattened : {A : Type 0} (x : Option (Option A)) → flat (option_map (λ y. y) x) ≡ flat x
    flattened None = refl
    flattened (Some x) = refl

-- ---- the answer of a reader that stands over positions

pub sliced_fault : {O V A : Type 0} {form : Meaning O → Meaning V} {answers : List ℕ → Returned O → Type 0} {calls : ℕ → Reached O → Type 0} {view : A → V} {m : List ℕ} {result : Returned A} (d : Fault)
    → FollowsAt form calls view m 0 (Err d) → CallsAt answers m calls → (Within (called_at m calls) (called answers) → Within (form (called_at m calls)) (form (called answers))) → result ≡ Err d → Follows form answers view m result
sliced_fault {form = form} {answers = answers} {calls = calls} {view = view} {m = m} d h says joins e = subst (Follows form answers view m) (sym e) (record { met = (joins (sliced_under answers m calls says)).fails m d tt h.met })

pub sliced_found : {O V A : Type 0} {form : Meaning O → Meaning V} {answers : List ℕ → Returned O → Type 0} {calls : ℕ → Reached O → Type 0} {view : A → V} {m : List ℕ} (q : ℕ) (x : A) (left : Bor (List ℕ))
    → FollowsAt form calls view m 0 (Ok (q, x)) → CallsAt answers m calls → (Within (called_at m calls) (called answers) → Within (form (called_at m calls)) (form (called answers))) → left.now ≡ drop q m → Follows form answers view m (Ok (left, x))
sliced_found {form = form} {answers = answers} {calls = calls} {view = view} {m = m} q x left h says joins e =
    record { met = subst (λ l. (form (called answers)).yields m (view x) l) (sym e) ((joins (sliced_under answers m calls says)).yields m (view x) (drop q m) h.met) }

-- a rest that is shorter, and an end of what was left, stands further on
pub sliced_advances : {O : Type 0} {answers : List ℕ → Returned O → Type 0} {m : List ℕ} {calls : ℕ → Reached O → Type 0} → Shortens answers → CallsAt answers m calls → ((p : ℕ) (r : Reached O) → p ≤ length m → calls p r → Ahead m p r) → Advances m calls
sliced_advances {m = m} short says ahead = record {
  further = λ p q x le h.
      let s = says p (Ok (q, x)) le h in
      (further m p q (subst (λ l. length l < length (drop p m)) (sym s.1) (short.shorter (drop p m) s.0 x s.2)), (ahead p (Ok (q, x)) le h).1);
}
