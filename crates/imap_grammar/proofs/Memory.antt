-- Readers that take no memory for some values, from their parts.
use Rattle.std.proofs.Common.{◌≡◌, ℕ, drop, ◌==◌, Bool, true, false, List, [], ◌∷◌, ◌++◌, Option, Some, Result, Ok, Err, refl, sym, ap, subst, ◌∙◌, inl, inr, ◌⊎◌, arith, append_assoc}
use Rattle.std.specs.Prelude.{codes, slice_get, IsOk, not, ◌||◌}
use Prim.Native.String.{String}
use Rattle.std.specs.Char.{to_ascii_lowercase, to_ascii_uppercase}
use Rattle.std.proofs.lemmas.Bool.{false≢true, and_parts, and_from, eqb-true, or_left, or_right, or_cases, not_from_false, not-true, both_ways, cases_Bool}
use Rattle.std.proofs.lemmas.Bool.Decides.{nat_tests}
use Rattle.imap_grammar.specs.declared.answer.Err.{Err as Fault}
use Rattle.imap_grammar.specs.declared.answer.Err.TheVariants.{Incomplete, Error, Failure}
use Rattle.imap_grammar.specs.Meaning.{is_word, differs}
use Rattle.imap_grammar.specs.Rule.{Rule, meaning, tag_by, gives, ◌⨾◌, ◌▹◌, ◌◃◌}
use Rattle.imap_grammar.specs.Step.{Step, step, tag_step}
use Rattle.std.specs.Borrow.{Bor}
use Rattle.imap_grammar.specs.Answer.{Returned, Gives, Exactly}
use Rattle.imap_grammar.specs.Lists.{tried_of}
use Rattle.imap_grammar.specs.Positions.{Reached, ExactlyAt}
use Rattle.imap_grammar.specs.Tags.{same_letter, tag, word}
use Rattle.imap_grammar.proofs.Agreement.{agrees, reads}
use Rattle.imap_grammar.proofs.Steps.{ok_is}
use Rattle.imap_grammar.proofs.ReadingWords.{exact, letter}
use Rattle.imap_grammar.proofs.Joins.{tried_fault}
use Rattle.imap_grammar.proofs.Yields.{Yields}
use Rattle.imap_grammar.specs.Memory.{BeginsWord, StartsWith, Behind, NeverFails, FailsOnlyIf, SucceedsFor}

-- ---- want of memory

pub no_memory : {V : Type 0} (r : Rule V) (m : List ℕ) (e : Fault) → step r m ≡ Err e → e ≡ Failure → ⊥
no_memory {V} r m e h q = (agrees r m).never (h ∙ ap bad q)
  where
    bad : Fault → Step V
    bad d = Err d

pub never_memory : {V : Type 0} (r : Rule V) (m : List ℕ) → ¬ (step r m ≡ Err Failure)
never_memory r m h = (agrees r m).never h

-- a reader whose answer is a step
pub exactly_never : {A V : Type 0} (view : A → V) (r : Rule V) (m : List ℕ) (result : Returned A) → Exactly view result (step r m) → NeverFails result
exactly_never view r m (Ok x) h = tt
exactly_never view r m (Err e) h = λ q. no_memory r m e h q

pub exactly_never_at : {A V : Type 0} (view : A → V) (r : Rule V) (m : List ℕ) (p : ℕ) (result : Reached A) → ExactlyAt view m result (step r (drop p m)) → NeverFails result
exactly_never_at view r m p (Ok x) h = tt
exactly_never_at view r m p (Err e) h = λ q. no_memory r (drop p m) e h q

-- a word takes none
pub word_never : (same : ℕ → ℕ → Bool) (k m : List ℕ) → ¬ (tag_step same k m ≡ Err Failure)
word_never same k m h = (agrees (tag_by same k) m).never h

-- a part that takes no memory failed
pub part_failed : {A V : Type 0} (P : Type 0) (r : Rule V) (m : List ℕ) (e : Fault) (result : Result A Fault) → result ≡ Err e → step r m ≡ Err e → FailsOnlyIf P result
part_failed P r m e result is h = subst (FailsOnlyIf P) (sym is) (λ q. absurd (no_memory r m e h q))

-- it holds
pub holds_already : {A : Type 0} (P : Type 0) (result : Result A Fault) → P → FailsOnlyIf P result
holds_already P (Ok x) p = tt
holds_already P (Err e) p = λ q. p

pub wider : {A : Type 0} (P Q : Type 0) (result : Result A Fault) → (P → Q) → FailsOnlyIf P result → FailsOnlyIf Q result
wider P Q (Ok x) f h = tt
wider P Q (Err e) f h = λ q. f (h q)

pub begins_word : (k : String) (m rest v : List ℕ) → step (word k) m ≡ Ok (rest, v) → BeginsWord k m
unfolding meaning
begins_word k m rest v h = let y = reads (word k) m rest v h in (v, rest, y.0, y.1)

pub begins_tag : (k : String) (m rest v : List ℕ) → is_word same_letter (codes k) (codes k) ≡ true → step (tag k) m ≡ Ok (rest, v) → BeginsWord k m
unfolding meaning
begins_tag k m rest v same h =
    let y = reads (tag k) m rest v h in
    (v, rest, y.0, subst (λ w. is_word same_letter (codes k) w ≡ true) (exact (codes k) v y.1) same)

pub starts_with : {V : Type 0} (r : Rule V) (m rest : List ℕ) (v : V) → step r m ≡ Ok (rest, v) → StartsWith r m
starts_with r m rest v h = (v, rest, reads r m rest v h)

-- the fault of a part, handed on
pub handed : {A B : Type 0} (P : Type 0) (e : Fault) (part : Result A Fault) (result : Result B Fault) → result ≡ Err e → part ≡ Err e → FailsOnlyIf P part → FailsOnlyIf P result
handed P e part result is was f = subst (FailsOnlyIf P) (sym is) (subst (FailsOnlyIf P) was f)

-- the fault of a part, which is want of memory only where P holds
pub fault_wants : {A : Type 0} (P Q : Type 0) (e : Fault) (result : Result A Fault) → result ≡ Err e → (e ≡ Failure → P) → (P → Q) → FailsOnlyIf Q result
fault_wants P Q e result is f g = subst (FailsOnlyIf Q) (sym is) (λ q. g (f q))

-- what may want memory stands behind what a rule takes
pub stands_behind : {V : Type 0} (P : List ℕ → Type 0) (r : Rule V) (m mid : List ℕ) (v : V) → step r m ≡ Ok (mid, v) → P mid → Behind r P m
stands_behind P r m mid v is p = (v, mid, reads r m mid v is, p)

pub wants_behind : {V A : Type 0} (P : List ℕ → Type 0) (r : Rule V) (m mid : List ℕ) (v : V) (result : Result A Fault) → step r m ≡ Ok (mid, v) → FailsOnlyIf (P mid) result → FailsOnlyIf (Behind r P m) result
wants_behind P r m mid v result is f = wider (P mid) (Behind r P m) result (λ p. (v, mid, reads r m mid v is, p)) f

-- a reader that takes no memory
pub exactly_fails : {A V : Type 0} (P : Type 0) (view : A → V) (r : Rule V) (m : List ℕ) (result : Returned A) → Exactly view result (step r m) → FailsOnlyIf P result
exactly_fails P view r m (Ok x) h = tt
exactly_fails P view r m (Err e) h = λ q. absurd (no_memory r m e h q)

-- the fault of a reader whose denial is none
pub tried_fails : {A B : Type 0} (P : Type 0) (inner : Returned A) (tried : Result (Option (Bor (List ℕ) × A)) Fault) (e : Fault) (result : Returned B) → result ≡ Err e → tried ≡ tried_of inner → tried ≡ Err e → FailsOnlyIf P inner → FailsOnlyIf P result
tried_fails P inner tried e result is same was h = subst (FailsOnlyIf P) (sym is) (subst (FailsOnlyIf P) (tried_fault inner e (sym same ∙ was)).0 h)

-- ---- words

-- neither word begins with the other, whatever the cases of their letters
abbrev pub apart : List ℕ → List ℕ → Bool
apart (x ∷ k) (y ∷ j) = not (same_letter x y) || apart k j
apart k j = false

other_letter : (x y b : ℕ) → not (same_letter x y) ≡ true → same_letter x b ≡ true → not (same_letter y b) ≡ true
other_letter x y b h s = elim (cases_Bool (same_letter y b)) [
  | inl is ↦ absurd (both_ways (same_letter x y) (not-true _ h) (eqb-refl_of _ _ (eqb-true (to_ascii_lowercase x) (to_ascii_lowercase b) s ∙ sym (eqb-true (to_ascii_lowercase y) (to_ascii_lowercase b) is))))
  | inr other ↦ not_from_false (same_letter y b) other
]
  where
    eqb-refl_of : (p q : ℕ) → p ≡ q → (p == q) ≡ true
    eqb-refl_of p q e = grind (arith, nat_tests, e)

apart_differs : (k j front rest : List ℕ) → apart k j ≡ true → is_word same_letter k front ≡ true → differs same_letter j (front ++ rest) ≡ true
apart_differs [] j front rest h w = absurd (false≢true h)
apart_differs (x ∷ k) [] front rest h w = absurd (false≢true h)
apart_differs (x ∷ k) (y ∷ j) [] rest h w = absurd (false≢true w)
apart_differs (x ∷ k) (y ∷ j) (b ∷ front) rest h w =
    let p = and_parts (same_letter x b) (is_word same_letter k front) w in
    elim (or_cases (not (same_letter x y)) (apart k j) h) [
      | inl here ↦ or_left (not (same_letter y b)) (differs same_letter j (front ++ rest)) (other_letter x y b here p.0)
      | inr later ↦ or_right (not (same_letter y b)) (differs same_letter j (front ++ rest)) (apart_differs k j front rest later p.1)
    ]

pub denied_apart : (k j : String) (m : List ℕ) → apart (codes k) (codes j) ≡ true → BeginsWord k m → step (word j) m ≡ Err Error
unfolding meaning
denied_apart k j m h b = (agrees (word j) m).fails Error (subst (λ l. differs same_letter (codes j) l ≡ true) (sym b.2) (apart_differs (codes k) (codes j) b.0 b.1 h b.3))

pub never_both : (k j : String) (m : List ℕ) → apart (codes k) (codes j) ≡ true → BeginsWord k m → BeginsWord j m → ⊥
unfolding meaning
never_both k j m h b d = let e = sym (denied_apart k j m h b) ∙ (agrees (word j) m).yields d.0 d.1 (d.2, d.3) in cc

first_letter : (x : ℕ) (k m front rest : List ℕ) → m ≡ front ++ rest → is_word same_letter (x ∷ k) front ≡ true → (slice_get m 0 ≡ Some (to_ascii_lowercase x)) ⊎ (slice_get m 0 ≡ Some (to_ascii_uppercase (to_ascii_lowercase x)))
first_letter x k m [] rest is h = absurd (false≢true h)
first_letter x k m (b ∷ front) rest is h = elim (letter x b (and_parts (same_letter x b) (is_word same_letter k front) h).0) [
  | inl e ↦ inl (ap (λ l. slice_get l 0) is ∙ ap some e)
  | inr e ↦ inr (ap (λ l. slice_get l 0) is ∙ ap some e)
]
  where
    some : ℕ → Option ℕ
    some n = Some n

-- the first letter of a word, small or capital
pub begins_letter : (k : String) (x : ℕ) (later m : List ℕ) → codes k ≡ x ∷ later → BeginsWord k m → (slice_get m 0 ≡ Some (to_ascii_lowercase x)) ⊎ (slice_get m 0 ≡ Some (to_ascii_uppercase (to_ascii_lowercase x)))
begins_letter k x later m is b = first_letter x later m b.0 b.1 b.2 (subst (λ l. is_word same_letter l b.0 ≡ true) is b.3)

word_on : (k j front more : List ℕ) → is_word same_letter k front ≡ true → is_word same_letter j more ≡ true → is_word same_letter (k ++ j) (front ++ more) ≡ true
word_on [] j [] more h g = g
word_on [] j (b ∷ front) more h g = absurd (false≢true h)
word_on (x ∷ k) j [] more h g = absurd (false≢true h)
word_on (x ∷ k) j (b ∷ front) more h g = let p = and_parts (same_letter x b) (is_word same_letter k front) h in and_from _ _ p.0 (word_on k j front more p.1 g)

-- a word, and another behind it
pub words_on : (both k j : String) (m mid v : List ℕ) → codes both ≡ codes k ++ codes j → step (word k) m ≡ Ok (mid, v) → BeginsWord j mid → BeginsWord both m
unfolding meaning
words_on both k j m mid v is h g =
    let y = reads (word k) m mid v h in (
      v ++ g.0,
      g.1,
      y.0 ∙ ap (λ l. v ++ l) g.2 ∙ sym (append_assoc v g.0 g.1),
      subst (λ w. is_word same_letter w (v ++ g.0) ≡ true) (sym is) (word_on (codes k) (codes j) v g.0 y.1 g.3),
    )

-- ---- values for which none is needed

pub exactly_succeeds : {A V : Type 0} (kind : V → Type 0) (view : A → V) (r : Rule V) (m : List ℕ) (result : Returned A) → Exactly view result (step r m) → SucceedsFor kind r m result
exactly_succeeds kind view r m (Ok x) h = λ v rest is k. refl
exactly_succeeds kind view r m (Err e) h = λ v rest is k. absurd cc

-- the rule yields none of the kind
pub none_of_kind : {A V : Type 0} (kind : V → Type 0) (r : Rule V) (m : List ℕ) (result : Returned A) → Yields (λ v. ¬ (kind v)) r → SucceedsFor kind r m result
none_of_kind kind r m result none = λ v rest is k. absurd (none.each m v rest (reads r m rest v is) k)

-- it yields nothing
pub none_yielded : {A V : Type 0} (kind : V → Type 0) (r : Rule V) (m : List ℕ) (e : Fault) (result : Returned A) → step r m ≡ Err e → SucceedsFor kind r m result
none_yielded kind r m e result h = λ v rest is k. absurd cc

pub same_kind : {A V : Type 0} (kind : V → Type 0) (r s : Rule V) (m : List ℕ) (result : Returned A) → step r m ≡ step s m → SucceedsFor kind s m result → SucceedsFor kind r m result
same_kind kind r s m result same h = λ v rest is k. h v rest (sym same ∙ is) k

not_ok : {A : Type 0} (result : Returned A) (e : Fault) → result ≡ Err e → ¬ (IsOk result)
not_ok (Ok x) e is = absurd cc
not_ok (Err d) e is = λ h. absurd (false≢true h)

-- the fault of a part
pub of_part : {A B V : Type 0} (kind : V → Type 0) (r : Rule V) (m : List ℕ) (e : Fault) (part : Returned A) (result : Returned B) → part ≡ Err e → SucceedsFor kind r m part → SucceedsFor kind r m result
of_part kind r m e part result was h = λ v rest y k. absurd (not_ok part e was (h v rest y k))

pub given : {A V W : Type 0} (kind : W → Type 0) (f : V → W) (a : Rule V) (m : List ℕ) (result : Returned A) → SucceedsFor (λ v. kind (f v)) a m result → SucceedsFor kind (gives f a) m result
unfolding meaning
given kind f a m result h = λ v rest is k. let y = reads (gives f a) m rest v is in h y.0 rest ((agrees a m).yields y.0 rest y.1) (subst kind (sym y.2) k)

pub behind : {A S V : Type 0} (kind : V → Type 0) (a : Rule S) (b : Rule V) (m mid : List ℕ) (x : S) (result : Returned A) → step a m ≡ Ok (mid, x) → SucceedsFor kind b mid result → SucceedsFor kind (a ▹ b) m result
unfolding meaning
behind kind a b m mid x result front h = λ v rest is k.
    let y = reads (a ▹ b) m rest v is in
    let same = ok_is _ _ (sym front ∙ (agrees a m).yields y.0.0 y.1.0 y.1.1) in
    let there : y.1.0 ≡ mid = sym (ap (λ p. p.0) same) in
    h y.0.1 rest (subst (λ n. step b n ≡ Ok (rest, y.0.1)) there ((agrees b y.1.0).yields y.0.1 rest y.1.2)) (subst kind (sym y.2) k)

pub before : {A V W : Type 0} (kind : V → Type 0) (a : Rule V) (b : Rule W) (m : List ℕ) (result : Returned A) → SucceedsFor kind a m result → SucceedsFor kind (a ◃ b) m result
unfolding meaning
before kind a b m result h = λ v rest is k. let y = reads (a ◃ b) m rest v is in h y.0.0 y.1.0 ((agrees a m).yields y.0.0 y.1.0 y.1.1) (subst kind (sym y.2) k)

-- the second of two values, behind the first
pub second : {A V W : Type 0} (kind : V × W → Type 0) (a : Rule V) (b : Rule W) (m mid : List ℕ) (x : V) (result : Returned A) → step a m ≡ Ok (mid, x) → SucceedsFor (λ w. kind (x, w)) b mid result → SucceedsFor kind (a ⨾ b) m result
unfolding meaning
second kind a b m mid x result front h = λ v rest is k.
    let y = reads (a ⨾ b) m rest v is in
    let same = ok_is _ _ (sym front ∙ (agrees a m).yields v.0 y.0 y.1) in
    let there : y.0 ≡ mid = sym (ap (λ p. p.0) same) in
    let first : v.0 ≡ x = sym (ap (λ p. p.1) same) in
    h v.1 rest (subst (λ n. step b n ≡ Ok (rest, v.1)) there ((agrees b y.0).yields v.1 rest y.2)) (subst (λ w. kind (w, v.1)) first k)

-- a reader that gives the rule's answer, and fails only where no such value is yielded
pub fails_apart : {A V : Type 0} (P : Type 0) (kind : V → Type 0) (view : A → V) (r : Rule V) (m : List ℕ) (result : Returned A) → Gives view result (step r m) → FailsOnlyIf P result → ((v : V) (rest : List ℕ) → step r m ≡ Ok (rest, v) → kind v → ¬ P) → SucceedsFor kind r m result
fails_apart P kind view r m (Ok x) g f apart_ = λ v rest is k. refl
fails_apart P kind view r m (Err Error) g f apart_ = λ v rest is k. absurd cc
fails_apart P kind view r m (Err (Incomplete n)) g f apart_ = λ v rest is k. absurd cc
fails_apart P kind view r m (Err Failure) g f apart_ = λ v rest is k. absurd (apart_ v rest is k (f refl))
