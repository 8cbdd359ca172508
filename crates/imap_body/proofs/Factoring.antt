-- Rules that answer alike: what begins alike is read once, a word in two parts, alternatives in groups.
use Rattle.std.proofs.Common.{◌≡◌, ◌⊎◌, ℕ, ◌<◌, ◌≤◌, Bool, true, false, List, [], ◌∷◌, ◌++◌, length, take, drop, Ok, Err, refl, sym, ◌∙◌, inl, inr, arith}
use Rattle.std.specs.Prelude.{nat_lt}
use Rattle.std.specs.List.{zip, list_all}
use Rattle.std.proofs.lemmas.Bool.{lt-ltb, le-ltb, cases_lt}
use Rattle.imap_grammar.specs.declared.answer.Err.TheVariants.{Incomplete, Error, Failure}
use Rattle.imap_grammar.specs.declared.answer.Needed.TheVariants.{Unknown}
use Rattle.imap_grammar.specs.Rule.{Rule, tag_by, ◌▹◌, ◌or◌}
use Rattle.imap_grammar.specs.Starts.{SameSteps}
use Rattle.imap_grammar.specs.Step.{Step, ◌>>=◌, beside, and_then, or_else, step, tag_step}

pub same_or : {V : Type 0} (a b c d : Rule V) → SameSteps a b → SameSteps c d → SameSteps (a or c) (b or d)
same_or a b c d one two m = rw (one m, two m) refl

pub itself : {V : Type 0} (a : Rule V) → SameSteps a a
itself a m = refl

-- with the value of what stands in front dropped
abbrev behind : {A V : Type 0} → Step A → (List ℕ → Step V) → Step V
behind {A} {V} s b = and_then s b >>= λ (v : List ℕ × (A × V)). Ok (v.0, v.1.1)

behind_any : {A V : Type 0} (s : Step V) (x : A) → ((s >>= beside x) >>= λ (v : List ℕ × (A × V)). Ok (v.0, v.1.1)) ≡ s
behind_any (Ok y) x = refl
behind_any (Err e) x = refl

pub same_behind : {A V : Type 0} (a : Rule A) (b c : Rule V) → SameSteps b c → SameSteps (a ▹ b) (a ▹ c)
same_behind {A} {V} a b c same m = go (step a m)
  where
    go : (s : Step A) → behind s (step b) ≡ behind s (step c)
    go (Ok x) = rw (same x.0) refl
    go (Err e) = refl

-- A B / A C is A (B / C)
pub front_once : {A V : Type 0} (a : Rule A) (b c : Rule V) → SameSteps ((a ▹ b) or (a ▹ c)) (a ▹ (b or c))
front_once {A} {V} a b c m = front (step a m)
  where
    front : (s : Step A) → or_else (behind s (step b)) (behind s (step c)) ≡ behind s (step (b or c))
    front (Ok x) = rw (behind_any (step b x.0) x.1, behind_any (step c x.0) x.1, behind_any (step (b or c) x.0) x.1) refl
    front (Err Error) = refl
    front (Err (Incomplete n)) = refl
    front (Err Failure) = refl

pub front_once3 : {A V : Type 0} (a : Rule A) (b c d : Rule V) → SameSteps ((a ▹ b) or (a ▹ c) or (a ▹ d)) (a ▹ (b or c or d))
front_once3 a b c d m = same_or (a ▹ b) (a ▹ b) ((a ▹ c) or (a ▹ d)) (a ▹ (c or d)) (itself (a ▹ b)) (front_once a c d) m ∙ front_once a b (c or d) m

-- A / (B / C) is (A / B) / C
pub grouped : {V : Type 0} (a b c : Rule V) → SameSteps (a or b or c) ((a or b) or c)
grouped {V} a b c m = go (step a m)
  where
    go : (s : Step V) → or_else s (or_else (step b m) (step c m)) ≡ or_else (or_else s (step b m)) (step c m)
    go (Ok x) = refl
    go (Err Error) = refl
    go (Err (Incomplete n)) = refl
    go (Err Failure) = refl

-- ---- words

word_first : {V : Type 0} (same : ℕ → ℕ → Bool) (x : ℕ) (w : List ℕ) (a : Rule V) (b : ℕ) (m : List ℕ) → same x b ≡ true → step (tag_by same (x ∷ w) ▹ a) (b ∷ m) ≡ step (tag_by same w ▹ a) m
unfolding tag_step
word_first same x w a b m e = go (list_all (λ p. same p.0 p.1) (zip w m)) refl (cases_lt (length m) (length w))
  where
    go : (t : Bool) → list_all (λ p. same p.0 p.1) (zip w m) ≡ t → (length m < length w) ⊎ (length w ≤ length m) → step (tag_by same (x ∷ w) ▹ a) (b ∷ m) ≡ step (tag_by same w ▹ a) m
    go false f cut = rw (e, f) refl
    go true f (inl lt) =
        let one : nat_lt (length (b ∷ m)) (length (x ∷ w)) ≡ true = lt-ltb _ _ (omega (arith, lt)) in
        let two : nat_lt (length m) (length w) ≡ true = lt-ltb _ _ lt in
        rw (e, f, one, two) refl
    go true f (inr le) =
        let one : nat_lt (length (b ∷ m)) (length (x ∷ w)) ≡ false = le-ltb _ _ (omega (arith, le)) in
        let two : nat_lt (length m) (length w) ≡ false = le-ltb _ _ le in
        rw (e, f, one, two) (behind_any (step a (drop (length w) m)) (take (length (x ∷ w)) (b ∷ m)) ∙ sym (behind_any (step a (drop (length w) m)) (take (length w) m)))

word_differs : {V : Type 0} (same : ℕ → ℕ → Bool) (x : ℕ) (w : List ℕ) (a : Rule V) (b : ℕ) (m : List ℕ) → same x b ≡ false → step (tag_by same (x ∷ w) ▹ a) (b ∷ m) ≡ Err Error
unfolding tag_step
word_differs same x w a b m e = rw e refl

no_word : {V : Type 0} (same : ℕ → ℕ → Bool) (a : Rule V) (m : List ℕ) → step (tag_by same [] ▹ a) m ≡ step a m
unfolding tag_step
no_word same a m =
    let one : nat_lt (length m) 0 ≡ false = le-ltb _ _ (omega arith) in
    let none : List ℕ = [] in
    rw one (behind_any (step a m) none)

no_bytes : {V : Type 0} (same : ℕ → ℕ → Bool) (x : ℕ) (k : List ℕ) (a : Rule V) → step (tag_by same (x ∷ k) ▹ a) [] ≡ Err (Incomplete Unknown)
unfolding tag_step
no_bytes {V} same x k a =
    let one : nat_lt 0 (length (x ∷ k)) ≡ true = lt-ltb _ _ (omega arith) in
    let stop : Step V = Err (Incomplete Unknown) in
    rw one (refl {a = stop})

-- a word is read as its front and then the rest of it
pub word_parts : {V : Type 0} (same : ℕ → ℕ → Bool) (k l : List ℕ) (a : Rule V) → SameSteps (tag_by same (k ++ l) ▹ a) (tag_by same k ▹ tag_by same l ▹ a)
word_parts same [] l a m = sym (no_word same (tag_by same l ▹ a) m)
word_parts same (x ∷ k) l a [] = no_bytes same x (k ++ l) a ∙ sym (no_bytes same x k (tag_by same l ▹ a))
word_parts same (x ∷ k) l a (b ∷ m) = go (same x b) refl (word_parts same k l a m)
  where
    go : (t : Bool) → same x b ≡ t → step (tag_by same (k ++ l) ▹ a) m ≡ step (tag_by same k ▹ tag_by same l ▹ a) m → step (tag_by same (x ∷ (k ++ l)) ▹ a) (b ∷ m) ≡ step (tag_by same (x ∷ k) ▹ tag_by same l ▹ a) (b ∷ m)
    go true e more = word_first same x (k ++ l) a b m e ∙ more ∙ sym (word_first same x k (tag_by same l ▹ a) b m e)
    go false e more = word_differs same x (k ++ l) a b m e ∙ sym (word_differs same x k (tag_by same l ▹ a) b m e)
