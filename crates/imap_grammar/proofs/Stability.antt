-- Every rule has one answer, which appended bytes keep.
use Rattle.std.proofs.Common.{◌≡◌, ℕ, ◌-◌, ◌<◌, Bool, true, false, not, List, [], ◌∷◌, ◌++◌, length, Ok, Err, refl, sym, ap, subst, ◌∙◌, inl, inr, append_assoc, append-nil, arith}
use Rattle.std.specs.Prelude.{◌&&◌}
use Rattle.std.proofs.lemmas.Bool.{false≢true, and_parts, or_cases, or_left, or_right}
use Rattle.std.proofs.lemmas.List.{length-append}
use Rattle.imap_grammar.specs.declared.answer.Err.{Err as Fault}
use Rattle.imap_grammar.specs.declared.answer.Err.TheVariants.{Incomplete, Error, Failure}
use Rattle.imap_grammar.specs.declared.answer.Needed.TheVariants.{Unknown, Size}
use Rattle.imap_grammar.specs.Meaning.{Meaning, Denies, Lacks, Waits, differs, begins, Cuts}
use Rattle.imap_grammar.specs.Rule.{Rule, meaning, tag_by, run0, run1, seq, alt, gives, tested, raw, nothing, never, many, counted, ◌or◌}
use Rattle.imap_grammar.specs.Step.{Step, step}
use Rattle.imap_grammar.specs.Answer.{Neither}
use Rattle.imap_grammar.specs.Stable.{Stable, LacksAll}
use Rattle.imap_grammar.proofs.Steps.{ok_is, err_is}
use Rattle.imap_grammar.proofs.Agreement.{agrees, shrinks}

-- ---- with more bytes

record Grows {V : Type 0} (a : Meaning V) : Type 0 where
  yields : (m t : List ℕ) (v : V) (rest : List ℕ) → a.yields m v rest → a.yields (m ++ t) v (rest ++ t)
  denies : (m t : List ℕ) → Denies a m → Denies a (m ++ t)
  lacks : (m t : List ℕ) (n : ℕ) → Lacks a m n → length t < n → Lacks a (m ++ t) (n - length t)

longer : (m v rest t : List ℕ) → m ≡ v ++ rest → m ++ t ≡ v ++ (rest ++ t)
longer m v rest t e = ap (λ (k : List ℕ). k ++ t) e ∙ append_assoc v rest t

begins-more : (p : ℕ → Bool) (m t : List ℕ) → begins p m ≡ true → begins p (m ++ t) ≡ true
begins-more p [] t h = absurd (false≢true h)
begins-more p (b ∷ m) t h = h

pub differs-more : (same : ℕ → ℕ → Bool) (word m t : List ℕ) → differs same word m ≡ true → differs same word (m ++ t) ≡ true
differs-more same [] m t d = absurd (false≢true d)
differs-more same (x ∷ word) [] t d = absurd (false≢true d)
differs-more same (x ∷ word) (b ∷ m) t d =
    elim (or_cases (not (same x b)) (differs same word m) d) [ inl other ↦ or_left _ (differs same word (m ++ t)) other | inr further ↦ or_right (not (same x b)) _ (differs-more same word m t further) ]

more_cuts : {A : Type 0} (a : Meaning A) → Grows a → (m t : List ℕ) (vs : List A) (rest : List ℕ) → Cuts a m vs rest → Cuts a (m ++ t) vs (rest ++ t)
more_cuts a s m t [] rest h = ap (λ (k : List ℕ). k ++ t) h
more_cuts a s m t (v ∷ vs) rest h = (h.0 ++ t, s.yields m t v h.0 h.1, more_cuts a s h.0 t vs rest h.2)

abbrev wants : ℕ → Fault
wants n = Incomplete (Size n)

size_is : (n k : ℕ) → wants n ≡ wants k → n ≡ k
size_is n k e = cc

grows : {V : Type 0} (r : Rule V) → Grows (meaning r)
unfolding meaning
grows (tag_by same word) = record {
  yields = λ m t v rest h. (longer m v rest t h.0, h.1);
  denies = λ m t h. differs-more same word m t h;
  lacks = λ m t n h lt. absurd h;
}
grows (run0 class) = record {
  yields = λ m t v rest h. (longer m v rest t h.0, h.1, begins-more _ rest t h.2);
  denies = λ m t h. absurd h;
  lacks = λ m t n h lt. absurd h;
}
grows (run1 class) = record {
  yields = λ m t v rest h. ((longer m v rest t h.0.0, h.0.1, begins-more _ rest t h.0.2), h.1);
  denies = λ m t h. begins-more _ m t h;
  lacks = λ m t n h lt. absurd h;
}
grows (seq a b) = record {
  yields = λ m t v rest h. (h.0 ++ t, (grows a).yields m t v.0 h.0 h.1, (grows b).yields h.0 t v.1 rest h.2);
  denies = λ m t h. elim h [ inl d ↦ inl ((grows a).denies m t d) | inr y ↦ inr (y.0, y.1 ++ t, (grows a).yields m t y.0 y.1 y.2, (grows b).denies y.1 t y.3) ];
  lacks = λ m t n h lt. elim h [ inl d ↦ inl ((grows a).lacks m t n d lt) | inr y ↦ inr (y.0, y.1 ++ t, (grows a).yields m t y.0 y.1 y.2, (grows b).lacks y.1 t n y.3 lt) ];
}
grows (alt a b) = record {
  yields = λ m t v rest h. elim h [ inl y ↦ inl ((grows a).yields m t v rest y) | inr y ↦ inr ((grows a).denies m t y.0, (grows b).yields m t v rest y.1) ];
  denies = λ m t h. elim h [ inl y ↦ absurd (y.1 refl) | inr y ↦ inr ((grows a).denies m t y.0, (grows b).denies m t y.1) ];
  lacks = λ m t n h lt. elim h [ inl y ↦ inl ((grows a).lacks m t n y.0 lt, λ q. cc) | inr y ↦ inr ((grows a).denies m t y.0, (grows b).lacks m t n y.1 lt) ];
}
grows (gives f a) = record {
  yields = λ m t v rest h. (h.0, (grows a).yields m t h.0 rest h.1, h.2);
  denies = λ m t h. (grows a).denies m t h;
  lacks = λ m t n h lt. (grows a).lacks m t n h lt;
}
grows (tested f a) = record {
  yields = λ m t v rest h. (h.0, (grows a).yields m t h.0 rest h.1, h.2);
  denies = λ m t h. elim h [ inl d ↦ inl ((grows a).denies m t d) | inr y ↦ inr (refl, y.1, y.2 ++ t, (grows a).yields m t y.1 y.2 y.3, y.4) ];
  lacks = λ m t n h lt. elim h [ inl l ↦ inl ((grows a).lacks m t n l lt) | inr y ↦ absurd (let q = y.0 in cc) ];
}
grows (raw a) = record {
  yields = λ m t v rest h. (h.0, (grows a).yields m t h.0 rest h.1, longer m v rest t h.2);
  denies = λ m t h. (grows a).denies m t h;
  lacks = λ m t n h lt. (grows a).lacks m t n h lt;
}
grows (nothing x) = record { yields = λ m t v rest h. (h.0, ap (λ (k : List ℕ). k ++ t) h.1); denies = λ m t h. absurd h; lacks = λ m t n h lt. absurd h }
grows never = record { yields = λ m t v rest h. absurd h; denies = λ m t h. refl; lacks = λ m t n h lt. absurd (let q = h in cc) }
grows (many a) = record {
  yields = λ m t v rest h. (more_cuts (meaning a) (grows a) m t v rest h.0, (grows a).denies rest t h.1);
  denies = λ m t h. elim h.3 [ inl y ↦ absurd (y.1 refl) | inr y ↦ absurd (let q = y.0 in cc) ];
  lacks = λ m t n h lt. elim h.3 [
    | inl y ↦ (h.0, h.1 ++ t, more_cuts (meaning a) (grows a) m t h.0 h.1 h.2, inl ((grows a).lacks h.1 t n y.0 lt, λ q. cc))
    | inr y ↦ absurd (let q = y.0 in cc)
  ];
}
grows (counted a) = record {
  yields = λ m t v rest h. (h.0 ++ t, (grows a).yields m t (length v) h.0 h.1, longer h.0 v rest t h.2);
  denies = λ m t h. elim h [ inl l ↦ inl ((grows a).denies m t l) | inr y ↦ absurd (let q = y.4 in cc) ];
  lacks = λ m t n h lt. elim h [
    | inl l ↦ inl ((grows a).lacks m t n l lt)
    | inr y ↦
        let gap : n ≡ y.0 - length y.1 = size_is n (y.0 - length y.1) y.4 in
        inr (y.0, y.1 ++ t, (grows a).yields m t y.0 y.1 y.2, omega (arith, y.3, gap, lt, length-append y.1 t), ap wants (omega (arith, y.3, gap, lt, length-append y.1 t)))
  ];
}

-- ---- a number lacking is above 0

some : {V : Type 0} (r : Rule V) (m : List ℕ) (n : ℕ) → Lacks (meaning r) m n → 0 < n
unfolding meaning
some (tag_by same word) m n l = absurd l
some (run0 class) m n l = absurd l
some (run1 class) m n l = absurd l
some (seq a b) m n l = elim l [ inl la ↦ some a m n la | inr lb ↦ some b lb.1 n lb.3 ]
some (alt a b) m n l = elim l [ inl la ↦ some a m n la.0 | inr lb ↦ some b m n lb.1 ]
some (gives f a) m n l = some a m n l
some (tested f a) m n l = elim l [ inl la ↦ some a m n la | inr y ↦ absurd (let q = y.0 in cc) ]
some (raw a) m n l = some a m n l
some (nothing x) m n l = absurd l
some never m n l = absurd (let q = l in cc)
some (many a) m n l = elim l.3 [ inl y ↦ some a l.1 n y.0 | inr y ↦ absurd (let q = y.0 in cc) ]
some (counted a) m n l = elim l [ inl la ↦ some a m n la | inr y ↦ (let gap : n ≡ y.0 - length y.1 = size_is n (y.0 - length y.1) y.4 in omega (arith, y.3, gap)) ]

-- ---- every rule

waits_neither : {V : Type 0} (r : Rule V) (m : List ℕ) → Waits (meaning r) m → Neither (meaning r) m
waits_neither r m w =
    let is = (agrees r m).fails (Incomplete Unknown) w in
    (λ v rest y. let f = sym is ∙ (agrees r m).yields v rest y in cc, λ d. let f = sym is ∙ (agrees r m).fails Error d in cc, λ n l. let f = sym is ∙ (agrees r m).fails (Incomplete (Size n)) l in cc)

neither_waits : {V : Type 0} (r : Rule V) (m : List ℕ) → Neither (meaning r) m → Waits (meaning r) m
neither_waits {V} r m h = go (step r m) refl
  where
    go : (s : Step V) → step r m ≡ s → Waits (meaning r) m
    go (Ok x) e = absurd (h.0 x.1 x.0 ((agrees r m).yielded x.1 x.0 e))
    go (Err Error) e = absurd (h.1 ((agrees r m).failed Error e))
    go (Err Failure) e = absurd ((agrees r m).never e)
    go (Err (Incomplete Unknown)) e = (agrees r m).failed (Incomplete Unknown) e
    go (Err (Incomplete (Size n))) e = absurd (h.2 n ((agrees r m).failed (Incomplete (Size n)) e))

pub is_stable : {V : Type 0} (r : Rule V) → Stable r
is_stable {V} r = record {
  yields_not_denies = λ m v rest y d. let f = sym ((agrees r m).yields v rest y) ∙ (agrees r m).fails Error d in cc;
  yields_not_lacks = λ m v rest n y l. let f = sym ((agrees r m).yields v rest y) ∙ (agrees r m).fails (Incomplete (Size n)) l in cc;
  denies_not_lacks = λ m n d l. let f = sym ((agrees r m).fails Error d) ∙ (agrees r m).fails (Incomplete (Size n)) l in cc;
  no_failure = λ m f. (agrees r m).never ((agrees r m).fails Failure f);
  waits = waits_neither r;
  neither = neither_waits r;
  one_yield = λ m v w rest more y z.
      let p : (rest, v) ≡ (more, w) = ok_is (rest, v) (more, w) (sym ((agrees r m).yields v rest y) ∙ (agrees r m).yields w more z) in
      (ap (λ (q : List ℕ × V). q.1) p, ap (λ (q : List ℕ × V). q.0) p);
  one_lack = λ m n k l l'. size_is n k (err_is {A = List ℕ × V} (wants n) (wants k) (sym ((agrees r m).fails (wants n) l) ∙ (agrees r m).fails (wants k) l'));
  some_lack = λ m n l. some r m n l;
  cut = λ m v rest y. shrinks r m v rest y;
  yields_more = λ m v rest t y. (grows r).yields m t v rest y;
  denies_more = λ m t d. (grows r).denies m t d;
  lacks_more = λ m n t l lt. (grows r).lacks m t n l lt;
}

-- ---- all that is lacking

-- a test on the rule alone: it counts no bytes, and so lacks none
abbrev pub counts_none : {V : Type 0} → Rule V → Bool
counts_none (tag_by same word) = true
counts_none (run0 class) = true
counts_none (run1 class) = true
counts_none (seq a b) = counts_none a && counts_none b
counts_none (alt a b) = counts_none a && counts_none b
counts_none (gives f a) = counts_none a
counts_none (tested f a) = counts_none a
counts_none (raw a) = counts_none a
counts_none (nothing x) = true
counts_none never = true
counts_none (many a) = counts_none a
counts_none (counted a) = false

lacks_none : {V : Type 0} (r : Rule V) (m : List ℕ) (n : ℕ) → counts_none r ≡ true → ¬ (Lacks (meaning r) m n)
unfolding meaning
lacks_none (tag_by same word) m n c = λ l. l
lacks_none (run0 class) m n c = λ l. l
lacks_none (run1 class) m n c = λ l. l
lacks_none (seq a b) m n c = let p = and_parts (counts_none a) (counts_none b) c in λ l. elim l [ inl la ↦ lacks_none a m n p.0 la | inr lb ↦ lacks_none b lb.1 n p.1 lb.3 ]
lacks_none (alt a b) m n c = let p = and_parts (counts_none a) (counts_none b) c in λ l. elim l [ inl la ↦ lacks_none a m n p.0 la.0 | inr lb ↦ lacks_none b m n p.1 lb.1 ]
lacks_none (gives f a) m n c = lacks_none a m n c
lacks_none (tested f a) m n c = λ l. elim l [ inl la ↦ lacks_none a m n c la | inr y ↦ absurd (let q = y.0 in cc) ]
lacks_none (raw a) m n c = lacks_none a m n c
lacks_none (nothing x) m n c = λ l. l
lacks_none never m n c = λ l. absurd (let q = l in cc)
lacks_none (many a) m n c = λ l. elim l.3 [ inl y ↦ lacks_none a l.1 n c y.0 | inr y ↦ absurd (let q = y.0 in cc) ]
lacks_none (counted a) m n c = absurd (false≢true c)

pub counted_lacks : (a : Rule ℕ) → counts_none a ≡ true → LacksAll (counted a)
unfolding meaning
counted_lacks a c = record {
  enough = λ m n t l is. elim l [
    | inl la ↦ absurd (lacks_none a m n c la)
    | inr y ↦
        let gap : n ≡ y.0 - length y.1 = size_is n (y.0 - length y.1) y.4 in
        let all : y.0 ≡ length (y.1 ++ t) = omega (arith, y.3, gap, is, length-append y.1 t) in
        (y.1 ++ t, (y.1 ++ t, subst (λ k. (meaning a).yields (m ++ t) k (y.1 ++ t)) all ((grows a).yields m t y.0 y.1 y.2), sym (append-nil (y.1 ++ t))))
  ];
}

pub later_lacks : {V : Type 0} (a b : Rule V) → counts_none a ≡ true → LacksAll b → LacksAll (a or b)
unfolding meaning
later_lacks a b c q = record {
  enough = λ m n t l is. elim l [
    | inl la ↦ absurd (lacks_none a m n c la.0)
    | inr y ↦ (let z = q.enough m n t y.1 is in (z.0, inr ((grows a).denies m t y.0, z.1)))
  ];
}

pub given_lacks : {A B : Type 0} (f : A → B) (a : Rule A) → LacksAll a → LacksAll (gives f a)
unfolding meaning
given_lacks f a q = record { enough = λ m n t l is. let z = q.enough m n t l is in (f z.0, (z.0, z.1, refl)) }
