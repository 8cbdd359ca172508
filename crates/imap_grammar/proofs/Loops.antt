-- A loop that reads with one rule as often as it yields.
use Rattle.std.proofs.Common.{◌≡◌, ℕ, zero, suc, ◌<◌, Bool, true, false, List, [], ◌∷◌, ◌++◌, length, Option, Some, None, Ok, Err, refl, sym, ap, ◌∙◌, append_assoc, arith}
use Rattle.std.specs.Prelude.{nat_lt, take, ◌-◌}
use Rattle.std.proofs.lemmas.Bool.{ltb-true, lt-ltb}
use Rattle.std.proofs.lemmas.List.{append-nil}
use Rattle.imap_grammar.specs.declared.answer.Err.{Err as Fault}
use Rattle.imap_grammar.specs.declared.answer.Err.TheVariants.{Incomplete, Error, Failure}
use Rattle.imap_grammar.specs.declared.answer.Needed.TheVariants.{Unknown}
use Rattle.imap_grammar.specs.Rule.{Rule, opt, many, raw}
use Rattle.imap_grammar.specs.Step.{Step, ◌>>=◌, step, many_then, many_step, or_else}
use Rattle.imap_grammar.proofs.Consumption.{consumes, less}

-- what was read before, and what is still read
abbrev pub onto : {A : Type 0} → List A → Step (List A) → Step (List A)
onto vs (Ok y) = Ok (y.0, vs ++ y.1)
onto vs (Err e) = Err e

cons : {A : Type 0} → A → List ℕ × List A → Step (List A)
cons x y = Ok (y.0, x ∷ y.1)

-- fuel above the length is as good as any other
same_fuel : {A : Type 0} (a : List ℕ → Step A) (f g : ℕ) (m : List ℕ) → length m < f → length m < g → many_step a f m ≡ many_step a g m
unfolding many_step
same_fuel a zero g m lf lg = absurd (omega arith)
same_fuel a (suc f) zero m lf lg = absurd (omega arith)
same_fuel {A} a (suc f) (suc g) m lf lg = go (a m) (λ k h. same_fuel a f g k (omega arith) (omega arith))
  where
    go : (s : Step A) → ((k : List ℕ) → length k < length m → many_step a f k ≡ many_step a g k) → many_then m s (many_step a f) ≡ many_then m s (many_step a g)
    go (Ok x) ih = sized (nat_lt (length x.0) (length m)) refl
      where
        put : List ℕ × List A → Step (List A)
        put y = Ok (y.0, x.1 ∷ y.1)

        both : Bool → Step (List A) → Step (List A)
        both true s = s >>= put
        both false s = Err (Incomplete Unknown)

        sized : (b : Bool) → nat_lt (length x.0) (length m) ≡ b → many_then m (Ok x) (many_step a f) ≡ many_then m (Ok x) (many_step a g)
        sized true e = rw e (ap (λ s. s >>= put) (ih x.0 (ltb-true _ _ e)))
        sized false e = rw e refl
    go (Err Error) ih = refl
    go (Err (Incomplete n)) ih = refl
    go (Err Failure) ih = refl

onto_cons : {A : Type 0} (vs : List A) (x : A) (s : Step (List A)) → onto vs (s >>= λ y. Ok (y.0, x ∷ y.1)) ≡ onto (vs ++ x ∷ []) s
onto_cons vs x (Ok y) = ap (λ ws. Ok (y.0, ws)) (sym (append_assoc vs (x ∷ []) y.1))
onto_cons vs x (Err e) = refl

pub onto_nothing : {A : Type 0} (s : Step (List A)) → s ≡ onto [] s
onto_nothing (Ok y) = refl
onto_nothing (Err e) = refl

-- one more
pub reads_more : {A : Type 0} (a : Rule A) (m k rest : List ℕ) (vs : List A) (x : A) → step (many a) m ≡ onto vs (step (many a) k) → step a k ≡ Ok (rest, x) → length rest < length k
    → step (many a) m ≡ onto (vs ++ x ∷ []) (step (many a) rest)
unfolding many_step
reads_more a m k rest vs x so_far here less =
    let t : nat_lt (length rest) (length k) ≡ true = lt-ltb _ _ less in
    let one : step (many a) k ≡ (step (many a) rest >>= λ y. Ok (y.0, x ∷ y.1)) = rw (here, t) (ap (λ s. s >>= λ y. Ok (y.0, x ∷ y.1)) (same_fuel (step a) (length k) (suc (length rest)) rest (omega arith) (omega arith))) in
    so_far ∙ ap (onto vs) one ∙ onto_cons vs x (step (many a) rest)

-- no more
pub reads_end : {A : Type 0} (a : Rule A) (m k : List ℕ) (vs : List A) → step (many a) m ≡ onto vs (step (many a) k) → step a k ≡ Err Error → step (many a) m ≡ Ok (k, vs)
unfolding many_step
reads_end a m k vs so_far here = so_far ∙ rw here (ap (λ ws. Ok (k, ws)) (append-nil vs))

abbrev some : {A : Type 0} → A → Option A
some x = Some x

abbrev none : {A : Type 0} → Option A
none = None

abbrev found : {A : Type 0} → List ℕ → A → Step A
found rest x = Ok (rest, x)

ok_is : {A : Type 0} (x y : List ℕ × A) → found x.0 x.1 ≡ found y.0 y.1 → x ≡ y
ok_is x y e = cc

some_is : {A : Type 0} (x y : A) → some x ≡ some y → x ≡ y
some_is x y e = cc

-- A?
abbrev tried : {A : Type 0} → List ℕ → Step A → Step (Option A)
tried k s = or_else (s >>= λ x. Ok (x.0, Some x.1)) (Ok (k, None))

some_read : {A : Type 0} (k : List ℕ) (s : Step A) (rest : List ℕ) (x : A) → tried k s ≡ found rest (some x) → s ≡ Ok (rest, x)
some_read {A} k (Ok y) rest x e =
    let p : (y.0, some y.1) ≡ (rest, some x) = ok_is (y.0, some y.1) (rest, some x) e in
    let one : y.0 ≡ rest = ap (λ (q : List ℕ × Option A). q.0) p in
    let two : y.1 ≡ x = some_is y.1 x (ap (λ (q : List ℕ × Option A). q.1) p) in
    ap (λ (k : List ℕ). found k y.1) one ∙ ap (found rest) two
some_read {A} k (Err Error) rest x e = absurd (let p : (k, none) ≡ (rest, some x) = ok_is (k, none) (rest, some x) e in let q = ap (λ (r : List ℕ × Option A). r.1) p in cc)
some_read k (Err (Incomplete n)) rest x e = absurd cc
some_read k (Err Failure) rest x e = absurd cc

none_read : {A : Type 0} (k : List ℕ) (s : Step A) (rest : List ℕ) → tried k s ≡ found rest none → s ≡ Err Error
none_read {A} k (Ok y) rest e = absurd (let p : (y.0, some y.1) ≡ (rest, none) = ok_is (y.0, some y.1) (rest, none) e in let q = ap (λ (r : List ℕ × Option A). r.1) p in cc)
none_read k (Err Error) rest e = refl
none_read k (Err (Incomplete n)) rest e = absurd cc
none_read k (Err Failure) rest e = absurd cc

-- the same, where each one is read as A?
pub more : {A : Type 0} (a : Rule A) (m k rest : List ℕ) (vs : List A) (x : A) → step (many a) m ≡ onto vs (step (many a) k) → step (opt a) k ≡ Ok (rest, Some x) → consumes a ≡ true → step (many a) m ≡ onto (vs ++ x ∷ []) (step (many a) rest)
more {A} a m k rest vs x so_far here c = let h = some_read k (step a k) rest x here in reads_more a m k rest vs x so_far h (less a k rest x c h)

pub smaller : {A : Type 0} (a : Rule A) (k rest : List ℕ) (x : A) → step (opt a) k ≡ Ok (rest, Some x) → consumes a ≡ true → length rest < length k
smaller a k rest x here c = less a k rest x c (some_read k (step a k) rest x here)

pub end : {A : Type 0} (a : Rule A) (m k rest : List ℕ) (vs : List A) → step (many a) m ≡ onto vs (step (many a) k) → step (opt a) k ≡ Ok (rest, None) → step (many a) m ≡ Ok (k, vs)
end a m k rest vs so_far here = reads_end a m k vs so_far (none_read k (step a k) rest here)

reads_fault : {A : Type 0} (a : Rule A) (m k : List ℕ) (vs : List A) (e : Fault) → step (many a) m ≡ onto vs (step (many a) k) → ¬ (e ≡ Error) → step a k ≡ Err e → step (many a) m ≡ Err e
unfolding many_step
reads_fault a m k vs Error so_far n here = absurd (n refl)
reads_fault a m k vs (Incomplete w) so_far n here = so_far ∙ rw here refl
reads_fault a m k vs Failure so_far n here = so_far ∙ rw here refl

fault_read : {A : Type 0} (k : List ℕ) (s : Step A) (e : Fault) → tried k s ≡ Err e → (¬ (e ≡ Error)) × (s ≡ Err e)
fault_read k (Ok y) e h = absurd cc
fault_read k (Err Error) e h = absurd cc
fault_read k (Err (Incomplete n)) e h = let same : Incomplete n ≡ e = cc in (λ q. cc, rw same refl)
fault_read k (Err Failure) e h = let same : Failure ≡ e = cc in (λ q. cc, rw same refl)

-- where the values are dropped
abbrev pub After : {A : Type 0} → Rule A → List ℕ → List ℕ → Type 0
After {A} a m k = (vs : List A) × (step (many a) m ≡ onto vs (step (many a) k))

pub after_start : {A : Type 0} (a : Rule A) (m : List ℕ) → After a m m
after_start a m = ([], onto_nothing (step (many a) m))

pub after_more : {A : Type 0} (a : Rule A) (m k rest : List ℕ) (x : A) → After a m k → step (opt a) k ≡ Ok (rest, Some x) → consumes a ≡ true → After a m rest
after_more a m k rest x so_far here c = (so_far.0 ++ x ∷ [], more a m k rest so_far.0 x so_far.1 here c)

pub after_fault : {A : Type 0} (a : Rule A) (m k : List ℕ) (e : Fault) → After a m k → step (opt a) k ≡ Err e → step (many a) m ≡ Err e
after_fault a m k e so_far here = let h = fault_read k (step a k) e here in reads_fault a m k so_far.0 e so_far.1 h.0 h.1

-- where the bytes that were read are kept
pub after_raw : {A : Type 0} (a : Rule A) (m k rest : List ℕ) → After a m k → step (opt a) k ≡ Ok (rest, None) → step (raw (many a)) m ≡ Ok (k, take (length m - length k) m)
after_raw a m k rest so_far here = let h = end a m k rest so_far.0 so_far.1 here in rw h refl

pub raw_fault : {A : Type 0} (a : Rule A) (m k : List ℕ) (e : Fault) → After a m k → step (opt a) k ≡ Err e → step (raw (many a)) m ≡ Err e
raw_fault a m k e so_far here = let h = after_fault a m k e so_far here in rw h refl
