-- The step of A* is what A* means.
use Rattle.std.proofs.Common.{◌≡◌, ◌⊎◌, ℕ, zero, suc, ◌<◌, ◌≤◌, true, false, List, [], ◌∷◌, ◌++◌, length, Ok, Err, refl, sym, ap, subst, ◌∙◌, inl, inr, arith}
use Rattle.std.specs.Prelude.{nat_lt}
use Rattle.std.proofs.lemmas.Bool.{lt-ltb, le-ltb, cases_lt}
use Rattle.std.proofs.lemmas.List.{nil_from_length, length-append}
use Rattle.imap_grammar.specs.declared.answer.Err.{Err as Fault}
use Rattle.imap_grammar.specs.declared.answer.Err.TheVariants.{Incomplete, Error, Failure}
use Rattle.imap_grammar.specs.declared.answer.Needed.TheVariants.{Unknown}
use Rattle.imap_grammar.specs.Meaning.{Meaning, Cuts, Halts, many_means}
use Rattle.imap_grammar.specs.Step.{Step, ◌>>=◌, many_then, many_step}
use Rattle.imap_grammar.specs.Exact.{Is}
use Rattle.imap_grammar.proofs.Steps.{ok, ok_is, bad, bind_ok, bind_err, err_is}
use Rattle.imap_grammar.proofs.Joining.{Shrinks}

same_length : (m front rest : List ℕ) → m ≡ front ++ rest → length m ≤ length rest → m ≡ rest
same_length m front rest e le =
    let none : front ≡ [] = nil_from_length front (omega (arith, ap length e, length-append front rest)) in
    e ∙ ap (λ (f : List ℕ). f ++ rest) none

-- where a yields and takes nothing, it does so for ever
stays : {A : Type 0} (a : Meaning A) (m : List ℕ) (s : Step A) → Is a m s → (x : A) → s ≡ Ok (m, x) → (vs : List A) (rest : List ℕ) → Cuts a m vs rest → m ≡ rest
stays a m s i x e [] rest h = h
stays {A} a m s i x e (v ∷ vs) rest h =
    let other : s ≡ Ok (h.0, v) = i.yields v h.0 h.1 in
    let p : (h.0, v) ≡ (m, x) = ok_is (h.0, v) (m, x) (sym other ∙ e) in
    let mid : h.0 ≡ m = ap (λ (q : List ℕ × A). q.0) p in
    stays a m s i x e vs rest (subst (λ k. Cuts a k vs rest) mid h.2)

pub many-is : {A : Type 0} (a : Meaning A) (sa : List ℕ → Step A) → ((k : List ℕ) → Is a k (sa k)) → Shrinks a → (fuel : ℕ) (m : List ℕ) → length m < fuel → Is (many_means a) m (many_step sa fuel m)
unfolding many_step
many-is a sa ia shrinks zero m lt = absurd (omega arith)
many-is {A} a sa ia shrinks (suc fuel) m lt = go (sa m) refl (λ k le. many-is a sa ia shrinks fuel k le)
  where
    cons : A → List ℕ × List A → Step (List A)
    cons x y = Ok (y.0, x ∷ y.1)

    after : Step A → Step (List A)
    after s = many_then m s (many_step sa fuel)

    is : (s : Step A) → sa m ≡ s → many_step sa (suc fuel) m ≡ after s
    is s e = ap after e

    go : (s : Step A) → sa m ≡ s → ((k : List ℕ) → length k < fuel → Is (many_means a) k (many_step sa fuel k)) → Is (many_means a) m (many_step sa (suc fuel) m)
    go (Err Error) e ih =
        let s : many_step sa (suc fuel) m ≡ Ok (m, []) = is (Err Error) e in
        record {
          yields = λ vs rest h. s ∙ none vs rest h.0;
          yielded = λ vs rest g. subst (λ (p : List ℕ × List A). (many_means a).yields m p.1 p.0) (ok_is (m, []) (rest, vs) (sym s ∙ g)) (refl, (ia m).failed Error e);
          fails = λ d h. absurd (no_halt h.0 h.1 d h.2 h.3);
          failed = λ d g. absurd (let f = sym s ∙ g in cc);
          never = λ g. let f = sym s ∙ g in cc;
        }
      where
        end : List ℕ → List A → Step (List A)
        end k vs = Ok (k, vs)

        none : (vs : List A) (rest : List ℕ) → Cuts a m vs rest → end m [] ≡ end rest vs
        none [] rest h = ap (λ (k : List ℕ). end k []) h
        none (v ∷ vs) rest h = absurd (let f = sym e ∙ (ia m).yields v h.0 h.1 in cc)

        no_halt : (vs : List A) (rest : List ℕ) (d : Fault) → Cuts a m vs rest → Halts a rest d → ⊥
        no_halt [] rest d h l = elim (subst (λ k. Halts a k d) (sym h) l) [
          | inl f ↦ f.1 (sym (err_is Error d (sym e ∙ (ia m).fails d f.0)))
          | inr y ↦ let f = sym e ∙ (ia m).yields y.1 m y.2 in cc
        ]
        no_halt (v ∷ vs) rest d h l = let f = sym e ∙ (ia m).yields v h.0 h.1 in cc
    go (Err (Incomplete w)) e ih =
        let s : many_step sa (suc fuel) m ≡ Err (Incomplete w) = is (Err (Incomplete w)) e in
        record {
          yields = λ vs rest h. absurd (none vs rest h.0 h.1);
          yielded = λ vs rest g. absurd (let f = sym s ∙ g in cc);
          fails = λ d h. s ∙ halted h.0 h.1 d h.2 h.3;
          failed = λ d g. let same : Incomplete w ≡ d = err_is (Incomplete w) d (sym s ∙ g) in ([], m, refl, inl ((ia m).failed d (e ∙ ap (λ z. bad (List ℕ × A) z) same), λ n. cc));
          never = λ g. let f = sym s ∙ g in cc;
        }
      where
        none : (vs : List A) (rest : List ℕ) → Cuts a m vs rest → a.fails rest Error → ⊥
        none [] rest h d = let g : a.fails m Error = subst (λ k. a.fails k Error) (sym h) d in let f = sym e ∙ (ia m).fails Error g in cc
        none (v ∷ vs) rest h d = let f = sym e ∙ (ia m).yields v h.0 h.1 in cc

        halted : (vs : List A) (rest : List ℕ) (d : Fault) → Cuts a m vs rest → Halts a rest d → bad (List ℕ × List A) (Incomplete w) ≡ Err d
        halted [] rest d h l = elim (subst (λ k. Halts a k d) (sym h) l) [
          | inl f ↦ ap (λ z. bad (List ℕ × List A) z) (err_is (Incomplete w) d (sym e ∙ (ia m).fails d f.0))
          | inr y ↦ absurd (let f = sym e ∙ (ia m).yields y.1 m y.2 in cc)
        ]
        halted (v ∷ vs) rest d h l = absurd (let f = sym e ∙ (ia m).yields v h.0 h.1 in cc)
    go (Err Failure) e ih = absurd ((ia m).never e)
    go (Ok x) e ih = sized (cases_lt (length x.0) (length m))
      where
        sized : (length x.0 < length m) ⊎ (length m ≤ length x.0) → Is (many_means a) m (many_step sa (suc fuel) m)
        sized (inr le) =
            let t : nat_lt (length x.0) (length m) ≡ false = le-ltb _ _ le in
            let s : many_step sa (suc fuel) m ≡ Err (Incomplete Unknown) = is (Ok x) e ∙ rw t refl in
            let y = (ia m).yielded x.1 x.0 e in
            let front = shrinks m x.1 x.0 y in
            let here : m ≡ x.0 = same_length m front.0 x.0 front.1 le in
            let again : sa m ≡ Ok (m, x.1) = e ∙ ap (λ (k : List ℕ). ok (k, x.1)) (sym here) in
            record {
              yields = λ vs rest h.
                  let end = stays a m (sa m) (ia m) x.1 again vs rest h.0 in
                  absurd (let f = sym e ∙ (ia m).fails Error (subst (λ k. a.fails k Error) (sym end) h.1) in cc);
              yielded = λ vs rest g. absurd (let f = sym s ∙ g in cc);
              fails = λ d h.
                  let end = stays a m (sa m) (ia m) x.1 again h.0 h.1 h.2 in
                  elim (subst (λ k. Halts a k d) (sym end) h.3) [ inl g ↦ absurd (let f = sym e ∙ (ia m).fails d g.0 in cc) | inr g ↦ rw g.0 s ];
              failed = λ d g. ([], m, refl, inr (sym (err_is (Incomplete Unknown) d (sym s ∙ g)), x.1, (ia m).yielded x.1 m again));
              never = λ g. let f = sym s ∙ g in cc;
            }
        sized (inl less) =
            let t : nat_lt (length x.0) (length m) ≡ true = lt-ltb _ _ less in
            let s : many_step sa (suc fuel) m ≡ (many_step sa fuel x.0 >>= cons x.1) = is (Ok x) e ∙ rw t refl in
            let i = ih x.0 (omega (arith, less, lt)) in
            record {
              yields = λ vs rest h. s ∙ given i vs rest h.0 h.1;
              yielded = λ vs rest g.
                  let b = bind_ok (many_step sa fuel x.0) (cons x.1) (rest, vs) (sym s ∙ g) in
                  let y = i.yielded b.0.1 b.0.0 b.1 in
                  subst (λ (p : List ℕ × List A). (many_means a).yields m p.1 p.0) (ok_is (b.0.0, x.1 ∷ b.0.1) (rest, vs) b.2) ((x.0, (ia m).yielded x.1 x.0 e, y.0), y.1);
              fails = λ d h. s ∙ halted i h.0 h.1 d h.2 h.3;
              failed = λ d g. elim (bind_err (many_step sa fuel x.0) (cons x.1) d (sym s ∙ g)) [
                | inl h ↦ let l = i.failed d h in (x.1 ∷ l.0, l.1, (x.0, (ia m).yielded x.1 x.0 e, l.2), l.3)
                | inr h ↦ absurd cc
              ];
              never = λ g. elim (bind_err (many_step sa fuel x.0) (cons x.1) Failure (sym s ∙ g)) [ inl h ↦ i.never h | inr h ↦ absurd cc ];
            }
          where
            pair : List ℕ → A → List ℕ × A
            pair k v = (k, v)

            next : (v : A) (mid : List ℕ) → a.yields m v mid → x ≡ pair mid v
            next v mid y = ok_is x (pair mid v) (sym e ∙ (ia m).yields v mid y)

            given : Is (many_means a) x.0 (many_step sa fuel x.0) → (vs : List A) (rest : List ℕ) → Cuts a m vs rest → a.fails rest Error → (many_step sa fuel x.0 >>= cons x.1) ≡ Ok (rest, vs)
            given i [] rest h d = absurd (let g : a.fails m Error = subst (λ k. a.fails k Error) (sym h) d in let f = sym e ∙ (ia m).fails Error g in cc)
            given i (v ∷ vs) rest h d =
                let put : A → Step (List A) = λ w. Ok (rest, w ∷ vs) in
                let p = next v h.0 h.1 in
                let more : Cuts a x.0 vs rest = subst (λ k. Cuts a k vs rest) (sym (ap (λ (q : List ℕ × A). q.0) p)) h.2 in
                let head : x.1 ≡ v = ap (λ (q : List ℕ × A). q.1) p in
                rw (i.yields vs rest (more, d)) (ap put head)

            halted : Is (many_means a) x.0 (many_step sa fuel x.0) → (vs : List A) (rest : List ℕ) (d : Fault) → Cuts a m vs rest → Halts a rest d → (many_step sa fuel x.0 >>= cons x.1) ≡ Err d
            halted i [] rest d h l = elim (subst (λ k. Halts a k d) (sym h) l) [
              | inl f ↦ absurd (let f = sym e ∙ (ia m).fails d f.0 in cc)
              | inr y ↦ absurd (let p = ap (λ (q : List ℕ × A). length q.0) (next y.1 m y.2) in omega (arith, p, less))
            ]
            halted i (v ∷ vs) rest d h l =
                let p = next v h.0 h.1 in
                let more : Cuts a x.0 vs rest = subst (λ k. Cuts a k vs rest) (sym (ap (λ (q : List ℕ × A). q.0) p)) h.2 in
                rw (i.fails d (vs, rest, more, l)) refl
