-- If each answer of a, its value seen by v, is an answer of b, then the same holds of any form over a and over b. P
-- says of which faults this is asked.
use Rattle.std.proofs.Common.{◌≡◌, ◌≢◌, ℕ, List, [], ◌∷◌, map, true, inl, inr, Option, Some, None, Ok, Err, refl, sym, ap, subst, ◌∙◌}
use Rattle.std.specs.Option.{option_map}
use Rattle.imap_grammar.specs.declared.answer.Err.{Err as Fault}
use Rattle.imap_grammar.specs.declared.answer.Err.TheVariants.{Incomplete, Error, Failure}
use Rattle.imap_grammar.specs.Meaning.{Meaning, Cuts, seq_means, alt_means, many_means, gives_means, nothing_means}
use Rattle.imap_grammar.specs.Rule.{Rule, meaning}
use Rattle.imap_grammar.specs.Step.{step}
use Rattle.imap_grammar.specs.Answer.{Returned, Gives, Exactly}
use Rattle.imap_grammar.specs.Tags.{tag}
use Rattle.imap_grammar.specs.Memory.{StartsWith}
use Rattle.imap_grammar.specs.Lists.{called, Shortens, Ends, or_memory_behind, flat, Allows, behind_means, list1_means, list0_means, opt_means, opened_means, enclosed_means, opt_opt_means}
use Rattle.imap_grammar.proofs.Agreement.{agrees, shrinks, exactly_gives}
use Rattle.imap_grammar.proofs.Consumption.{consumes, less}

pub record Under {A B : Type 0} (P : Fault → Type 0) (v : A → B) (a : Meaning A) (b : Meaning B) : Type 0 where
  pub error : P Error
  pub yields : (m : List ℕ) (x : A) (rest : List ℕ) → a.yields m x rest → b.yields m (v x) rest
  pub fails : (m : List ℕ) (e : Fault) → P e → a.fails m e → b.fails m e

pub same : {A : Type 0} {P : Fault → Type 0} (a : Meaning A) → P Error → Under P (λ x. x) a a
same a o = record { error = o; yields = λ m x rest y. y; fails = λ m e o f. f }

pub seq_under : {A B C D : Type 0} {P : Fault → Type 0} (v : A → B) (w : C → D) (a : Meaning A) (b : Meaning B) (c : Meaning C) (d : Meaning D) → Under P v a b → Under P w c d → Under P (λ x. (v x.0, w x.1)) (seq_means a c) (seq_means b d)
seq_under v w a b c d p q = record {
  error = p.error;
  yields = λ m x rest y. (y.0, p.yields m x.0 y.0 y.1, q.yields y.0 x.1 rest y.2);
  fails = λ m e o f. elim f [ inl h ↦ inl (p.fails m e o h) | inr h ↦ inr (v h.0, h.1, p.yields m h.0 h.1 h.2, q.fails h.1 e o h.3) ];
}

pub alt_under : {A B : Type 0} {P : Fault → Type 0} (v : A → B) (a : Meaning A) (b : Meaning B) (c : Meaning A) (d : Meaning B) → Under P v a b → Under P v c d → Under P v (alt_means a c) (alt_means b d)
alt_under v a b c d p q = record {
  error = p.error;
  yields = λ m x rest y. elim y [ inl h ↦ inl (p.yields m x rest h) | inr h ↦ inr (p.fails m Error p.error h.0, q.yields m x rest h.1) ];
  fails = λ m e o f. elim f [ inl h ↦ inl (p.fails m e o h.0, h.1) | inr h ↦ inr (p.fails m Error p.error h.0, q.fails m e o h.1) ];
}

pub nothing_under : {A B : Type 0} {P : Fault → Type 0} (v : A → B) (x : A) (z : B) → v x ≡ z → P Error → Under P v (nothing_means x) (nothing_means z)
nothing_under v x z is o = record {
  error = o;
  yields = λ m w rest y. (sym is ∙ ap v y.0, y.1);
  fails = λ m e o f. absurd f;
}

pub gives_under : {A B C D : Type 0} {P : Fault → Type 0} (v : A → B) (w : C → D) (f : A → C) (g : B → D) (a : Meaning A) (b : Meaning B) → ((x : A) → g (v x) ≡ w (f x)) → Under P v a b → Under P w (gives_means f a) (gives_means g b)
gives_under v w f g a b is p = record {
  error = p.error;
  yields = λ m x rest y. (v y.0, p.yields m y.0 rest y.1, is y.0 ∙ ap w y.2);
  fails = λ m e o h. p.fails m e o h;
}

cuts_under : {A B : Type 0} {P : Fault → Type 0} (v : A → B) (a : Meaning A) (b : Meaning B) → Under P v a b → (vs : List A) (m rest : List ℕ) → Cuts a m vs rest → Cuts b m (map v vs) rest
cuts_under v a b p [] m rest y = y
cuts_under v a b p (x ∷ vs) m rest y = (y.0, p.yields m x y.0 y.1, cuts_under v a b p vs y.0 rest y.2)

pub many_under : {A B : Type 0} {P : Fault → Type 0} (v : A → B) (a : Meaning A) (b : Meaning B) → Under P v a b → Under P (map v) (many_means a) (many_means b)
many_under v a b p = record {
  error = p.error;
  yields = λ m vs rest y. (cuts_under v a b p vs m rest y.0, p.fails rest Error p.error y.1);
  fails = λ m e o f. (map v f.0, f.1, cuts_under v a b p f.0 m f.1 f.2, elim f.3 [ inl h ↦ inl (p.fails f.1 e o h.0, h.1) | inr h ↦ inr (h.0, v h.1, p.yields f.1 h.1 f.1 h.2) ]);
}

-- ---- the forms of lists

pub opt_under : {A B : Type 0} {P : Fault → Type 0} (v : A → B) (a : Meaning A) (b : Meaning B) → Under P v a b → Under P (option_map v) (opt_means a) (opt_means b)
opt_under v a b p = alt_under (option_map v) (gives_means Some a) (gives_means Some b) (nothing_means None) (nothing_means None) (gives_under v (option_map v) Some Some a b (λ x. refl) p) (nothing_under (option_map v) None None refl p.error)

-- behind what a meaning takes alike
behind_under : {S A B : Type 0} {P : Fault → Type 0} (s : Meaning S) (v : A → B) (a : Meaning A) (b : Meaning B) → Under P v a b → Under P v (behind_means s a) (behind_means s b)
behind_under s v a b p = gives_under (λ x. (x.0, v x.1)) v (λ x. x.1) (λ x. x.1) (seq_means s a) (seq_means s b) (λ x. refl) (seq_under (λ x. x) v s s a b (same s p.error) p)

pub list1_under : {S A B : Type 0} {P : Fault → Type 0} (s : Meaning S) (v : A → B) (a : Meaning A) (b : Meaning B) → Under P v a b → Under P (map v) (list1_means s a) (list1_means s b)
list1_under s v a b p =
    let more = many_under v (behind_means s a) (behind_means s b) (behind_under s v a b p) in
    gives_under (λ x. (v x.0, map v x.1)) (map v) (λ x. x.0 ∷ x.1) (λ x. x.0 ∷ x.1) (seq_means a (many_means (behind_means s a))) (seq_means b (many_means (behind_means s b))) (λ x. refl)
    (seq_under v (map v) a b (many_means (behind_means s a)) (many_means (behind_means s b)) p more)

pub list0_under : {S A B : Type 0} {P : Fault → Type 0} (s : Meaning S) (v : A → B) (a : Meaning A) (b : Meaning B) → Under P v a b → Under P (map v) (list0_means s a) (list0_means s b)
list0_under s v a b p = alt_under (map v) (list1_means s a) (list1_means s b) (nothing_means []) (nothing_means []) (list1_under s v a b p) (nothing_under (map v) [] [] refl p.error)

pub opened_under : {A B : Type 0} {P : Fault → Type 0} (v : A → B) (a : Meaning A) (b : Meaning B) → Under P v a b → Under P v (opened_means a) (opened_means b)
opened_under v a b p = behind_under (meaning (tag "(")) v a b p

pub enclosed_under : {A B C : Type 0} {P : Fault → Type 0} (close : Rule C) (v : A → B) (a : Meaning A) (b : Meaning B) → Under P v a b → Under P v (enclosed_means close a) (enclosed_means close b)
enclosed_under close v a b p =
    opened_under v (gives_means (λ x. x.0) (seq_means a (meaning close))) (gives_means (λ x. x.0) (seq_means b (meaning close)))
    (gives_under (λ x. (v x.0, x.1)) v (λ x. x.0) (λ x. x.0) (seq_means a (meaning close)) (seq_means b (meaning close)) (λ x. refl)
    (seq_under v (λ x. x) a b (meaning close) (meaning close) p (same (meaning close) p.error)))

pub opt_opt_under : {A B : Type 0} {P : Fault → Type 0} (v : A → B) (a : Meaning (Option A)) (b : Meaning (Option B)) → Under P (option_map v) a b → Under P (option_map v) (opt_opt_means a) (opt_opt_means b)
opt_opt_under {A = A} v a b p = gives_under (option_map (option_map v)) (option_map v) flat flat (opt_means a) (opt_means b) flattened (opt_under (option_map v) a b p)
  where
    flattened : (x : Option (Option A)) → flat (option_map (option_map v) x) ≡ option_map v (flat x)
    flattened None = refl
    flattened (Some x) = refl

-- ---- from a reader's answers to its rule

abbrev pub Kept : Fault → Type 0
Kept e = e ≢ Failure

abbrev pub All : Fault → Type 0
All e = Unit {0}

pub error_kept : Kept Error
error_kept e = cc

-- the reader that was passed keeps the clause of a rule
abbrev pub Keeps : {O V : Type 0} → (List ℕ → Returned O → Type 0) → (O → V) → Rule V → Type 0
Keeps {O} answers v b = (m : List ℕ) (r : Returned O) → answers m r → Gives v r (step b m)

abbrev pub KeepsExactly : {O V : Type 0} → (List ℕ → Returned O → Type 0) → (O → V) → Rule V → Type 0
KeepsExactly {O} answers v b = (m : List ℕ) (r : Returned O) → answers m r → Exactly v r (step b m)

pub kept_under : {O V : Type 0} (answers : List ℕ → Returned O → Type 0) (v : O → V) (b : Rule V) → Keeps answers v b → Under Kept v (called answers) (meaning b)
kept_under answers v b says = record {
  error = error_kept;
  yields = λ m x rest y. subst (λ k. (meaning b).yields m (v x) k) (sym y.1) ((agrees b m).yielded (v x) y.0.now (says m (Ok (y.0, x)) y.2));
  fails = λ m e o f. stops m e o (says m (Err e) f);
}
  where
    stops : (m : List ℕ) (e : Fault) → Kept e → Gives v (Err e) (step b m) → (meaning b).fails m e
    stops m Error o f = (agrees b m).failed Error f
    stops m Failure o f = absurd (o refl)
    stops m (Incomplete n) o f = (agrees b m).failed (Incomplete n) f

pub exactly_under : {O V : Type 0} (answers : List ℕ → Returned O → Type 0) (v : O → V) (b : Rule V) → KeepsExactly answers v b → Under All v (called answers) (meaning b)
exactly_under answers v b says = record {
  error = tt;
  yields = λ m x rest y. subst (λ k. (meaning b).yields m (v x) k) (sym y.1) ((agrees b m).yielded (v x) y.0.now (says m (Ok (y.0, x)) y.2));
  fails = λ m e o f. (agrees b m).failed e (says m (Err e) f);
}

-- where memory may run out as well, whatever this is behind
pub under_gives : {O A B X : Type 0} (first : Meaning O) (w : A → B) (a : Meaning A) (r : Rule B) (view : X → A) (m : List ℕ) (result : Returned X) → Under Kept w a (meaning r) → Allows (or_memory_behind first a) view m result → Gives (λ x. w (view x)) result (step r m)
under_gives first w a r view m (Ok x) p h = (agrees r m).yields (w (view x.1)) x.0.now (p.yields m (view x.1) x.0.now h)
under_gives first w a r view m (Err Failure) p h = tt
under_gives first w a r view m (Err Error) p h = elim h [ inl f ↦ (agrees r m).fails Error (p.fails m Error error_kept f) | inr q ↦ absurd (let e = q.0 in cc) ]
under_gives first w a r view m (Err (Incomplete n)) p h = elim h [ inl f ↦ (agrees r m).fails (Incomplete n) (p.fails m (Incomplete n) (λ q. cc) f) | inr q ↦ absurd (let e = q.0 in cc) ]

pub under_exactly : {A B X : Type 0} (w : A → B) (a : Meaning A) (r : Rule B) (view : X → A) (m : List ℕ) (result : Returned X) → Under All w a (meaning r) → Allows a view m result → Exactly (λ x. w (view x)) result (step r m)
under_exactly w a r view m (Ok x) p h = (agrees r m).yields (w (view x.1)) x.0.now (p.yields m (view x.1) x.0.now h)
under_exactly w a r view m (Err e) p h = (agrees r m).fails e (p.fails m e tt h)

pub memory_aside : {A X : Type 0} (a : Meaning A) (view : X → A) (m : List ℕ) (result : Returned X) → Allows a view m result → Allows (or_memory_behind a a) view m result
memory_aside a view m (Ok x) h = h
memory_aside a view m (Err e) h = inl h

-- where it runs out behind the first meaning, the rule of that yields
pub starts_behind : {O V A B : Type 0} (v : O → V) (w : A → B) (first : Meaning O) (b : Rule V) (a : Meaning A) (r : Rule B) (m : List ℕ) (e : Fault) → Under All v first (meaning b) → Under All w a (meaning r) → (or_memory_behind first a).fails m e → e ≡ Failure → StartsWith b m
starts_behind v w first b a r m e p u f q = elim f [
  | inl h ↦ absurd ((agrees r m).never ((agrees r m).fails Failure (u.fails m Failure tt (subst (λ d. a.fails m d) q h))))
  | inr y ↦ (v y.1, y.2, p.yields m y.1 y.2 y.3)
]

-- what a reader with the clause of a rule hands back is an end of its input, and shorter, where the rule takes a byte
pub kept_ends : {O V : Type 0} {answers : List ℕ → Returned O → Type 0} (v : O → V) (b : Rule V) → Keeps answers v b → Ends answers
kept_ends v b says = record { cut = λ m k x h. shrinks b m (v x) k.now ((agrees b m).yielded (v x) k.now (says m (Ok (k, x)) h)) }

pub shorter_ends : {O V : Type 0} {answers : List ℕ → Returned O → Type 0} (v : O → V) (b : Rule V) → Keeps answers v b → consumes b ≡ true → Shortens answers × Ends answers
shorter_ends v b says c = (record { shorter = λ m k x h. less b m k.now (v x) c (says m (Ok (k, x)) h) }, kept_ends v b says)

-- a call's clause, at the bytes that the call was shown
pub kept_at : {O V : Type 0} (v : O → V) (b : Rule V) (r : Returned O) {m n : List ℕ} → m ≡ n → Gives v r (step b m) → Gives v r (step b n)
kept_at v b r e h = subst (λ j. Gives v r (step b j)) e h

pub exact_still : {O V : Type 0} (v : O → V) (b : Rule V) (r : Returned O) {m n : List ℕ} → m ≡ n → Exactly v r (step b m) → Exactly v r (step b n)
exact_still v b r e h = subst (λ j. Exactly v r (step b j)) e h

pub exactly_at : {O V : Type 0} (v : O → V) (b : Rule V) (r : Returned O) {m n : List ℕ} → m ≡ n → Exactly v r (step b m) → Gives v r (step b n)
exactly_at v b r e h = kept_at v b r e (exactly_gives v r (step b _) h)
