-- What a rule does with each spelling of a text, its letters in either case: told by the rule alone, so that the
-- checker computes it.
use Rattle.std.proofs.Common.{◌≡◌, ℕ, Bool, true, false, List, [], ◌∷◌, ◌++◌, refl, ap, subst, inl, inr}
use Rattle.std.specs.Prelude.{not, ◌&&◌, codes}
use Rattle.std.specs.List.{AllByRecursion}
use Rattle.std.specs.Char.{to_ascii_lowercase, to_ascii_uppercase}
use Rattle.std.proofs.lemmas.Bool.{false≢true, and_parts, and_from, or_left, or_right}
use Prim.Native.String.{String}
use Rattle.imap_grammar.specs.Meaning.{Denies, is_word, differs, outside}
use Rattle.imap_grammar.specs.Rule.{Rule, meaning, tag_by, run0, run1, seq, alt, gives, tested, raw, nothing, never, many, counted}
use Rattle.imap_grammar.specs.Tags.{same_letter}
use Rattle.imap_grammar.specs.Text.{Bytes}
use Rattle.imap_grammar.proofs.ReadingWords.{in_class}
use Rattle.imap_data.specs.Constants.{IsReadBy}

-- c is the text, each letter in either case
abbrev Spells : Bytes → Bytes → Type 0
Spells k c = is_word same_letter k c ≡ true

-- both cases of y pass
abbrev both_cases : (ℕ → Bool) → ℕ → Bool
both_cases p y = p (to_ascii_lowercase y) && p (to_ascii_uppercase (to_ascii_lowercase y))

-- ---- what is told of a text

-- `told value later left`: it yields `value c` where c stands in front and leaves `left c`, a spelling of `later`
pub data Told : Type 0 → Type 1 where
  unknown denied : {V : Type 0} → Told V
  told : {V : Type 0} → (Bytes → V) → Bytes → (Bytes → Bytes) → Told V

abbrev head : Bytes → Bytes
head [] = []
head (b ∷ c) = b ∷ []

abbrev tail : Bytes → Bytes
tail [] = []
tail (b ∷ c) = c

abbrev longer : Told Bytes → Told Bytes
longer unknown = unknown
longer denied = denied
longer (told value later left) = told (λ c. head c ++ value (tail c)) later (λ c. left (tail c))

-- whether the byte is the word's, and whether it is another, in both cases
abbrev at_byte : Bool → Bool → Told Bytes → Told Bytes
at_byte true q t = longer t
at_byte false true t = denied
at_byte false false t = unknown

abbrev tag_told : (ℕ → ℕ → Bool) → Bytes → Bytes → Told Bytes
tag_told same [] k = told (λ c. []) k (λ c. c)
tag_told same (x ∷ word) [] = unknown
tag_told same (x ∷ word) (y ∷ k) = at_byte (both_cases (same x) y) (both_cases (λ b. not (same x b)) y) (tag_told same word k)

abbrev deny_if : {V : Type 0} → Bool → Told V
deny_if true = denied
deny_if false = unknown

abbrev run_told : (ℕ → Bool) → Bytes → Told Bytes
run_told class [] = unknown
run_told class (y ∷ k) = deny_if (both_cases (outside class) y)

abbrev after_told : {A B : Type 0} → (Bytes → A) → (Bytes → Bytes) → Told B → Told (A × B)
after_told value left unknown = unknown
after_told value left denied = denied
after_told value left (told next later end) = told (λ c. (value c, next (left c))) later (λ c. end (left c))

abbrev both_told : {A B : Type 0} → Told A → (Bytes → Told B) → Told (A × B)
both_told unknown b = unknown
both_told denied b = denied
both_told (told value later left) b = after_told value left (b later)

abbrev either_told : {A : Type 0} → Told A → Told A → Told A
either_told unknown b = unknown
either_told denied b = b
either_told (told value later left) b = told value later left

abbrev given_told : {A B : Type 0} → (A → B) → Told A → Told B
given_told f unknown = unknown
given_told f denied = denied
given_told f (told value later left) = told (λ c. f (value c)) later left

-- of a denial alone
abbrev denied_told : {A B : Type 0} → Told A → Told B
denied_told unknown = unknown
denied_told denied = denied
denied_told (told value later left) = unknown

abbrev tells : {V : Type 0} → Rule V → Bytes → Told V
tells (tag_by same word) k = tag_told same word k
tells (run0 class) k = unknown
tells (run1 class) k = run_told class k
tells (seq x y) k = both_told (tells x k) (tells y)
tells (alt x y) k = either_told (tells x k) (tells y k)
tells (gives f x) k = given_told f (tells x k)
tells (tested f x) k = denied_told (tells x k)
tells (raw x) k = denied_told (tells x k)
tells (nothing x) k = told (λ c. x) k (λ c. c)
tells never k = denied
tells (many x) k = unknown
tells (counted x) k = denied_told (tells x k)

-- ---- that it holds

abbrev Holds : {V : Type 0} → Rule V → Bytes → Told V → Type 0
Holds r k unknown = Unit {0}
Holds r k denied = (c rest : Bytes) → Spells k c → Denies (meaning r) (c ++ rest)
Holds r k (told value later left) = (c rest : Bytes) → Spells k c → Spells later (left c) × (meaning r).yields (c ++ rest) (value c) (left c ++ rest)

first_differs : (same : ℕ → ℕ → Bool) (x : ℕ) (word : Bytes) (y : ℕ) (k : Bytes) → both_cases (λ b. not (same x b)) y ≡ true → (c rest : Bytes) → Spells (y ∷ k) c → differs same (x ∷ word) (c ++ rest) ≡ true
first_differs same x word y k f [] rest s = absurd (false≢true s)
first_differs same x word y k f (b ∷ c) rest s = or_left (not (same x b)) (differs same word (c ++ rest)) (in_class (λ d. not (same x d)) y b f (and_parts _ _ s).0)

later_differs : (same : ℕ → ℕ → Bool) (x : ℕ) (word : Bytes) (y : ℕ) (k : Bytes) → ((c rest : Bytes) → Spells k c → differs same word (c ++ rest) ≡ true) → (c rest : Bytes) → Spells (y ∷ k) c → differs same (x ∷ word) (c ++ rest) ≡ true
later_differs same x word y k h [] rest s = absurd (false≢true s)
later_differs same x word y k h (b ∷ c) rest s = or_right (not (same x b)) (differs same word (c ++ rest)) (h c rest (and_parts _ _ s).1)

longer_holds : (same : ℕ → ℕ → Bool) (x : ℕ) (word : Bytes) (y : ℕ) (k : Bytes) → both_cases (same x) y ≡ true → (t : Told Bytes) → Holds (tag_by same word) k t → Holds (tag_by same (x ∷ word)) (y ∷ k) (longer t)
unfolding meaning
longer_holds same x word y k e unknown h = tt
longer_holds same x word y k e denied h = later_differs same x word y k h
longer_holds same x word y k e (told value later left) h = onto
  where
    onto : (c rest : Bytes) → Spells (y ∷ k) c → Spells later (left (tail c)) × (meaning (tag_by same (x ∷ word))).yields (c ++ rest) (head c ++ value (tail c)) (left (tail c) ++ rest)
    onto [] rest s = absurd (false≢true s)
    onto (b ∷ c) rest s =
        let p = and_parts (same_letter y b) (is_word same_letter k c) s in
        let g = h c rest p.1 in
        (g.0, (ap (λ l. b ∷ l) g.1.0, and_from _ _ (in_class (same x) y b e p.0) g.1.1))

byte_holds : (same : ℕ → ℕ → Bool) (x : ℕ) (word : Bytes) (y : ℕ) (k : Bytes) (p q : Bool) → both_cases (same x) y ≡ p → both_cases (λ b. not (same x b)) y ≡ q → (t : Told Bytes) → Holds (tag_by same word) k t → Holds (tag_by same (x ∷ word)) (y ∷ k) (at_byte p q t)
unfolding meaning
byte_holds same x word y k true q e f t h = longer_holds same x word y k e t h
byte_holds same x word y k false true e f t h = first_differs same x word y k f
byte_holds same x word y k false false e f t h = tt

tag_holds : (same : ℕ → ℕ → Bool) (word k : Bytes) → Holds (tag_by same word) k (tag_told same word k)
unfolding meaning
tag_holds same [] k = λ c rest s. (s, (refl, refl))
tag_holds same (x ∷ word) [] = tt
tag_holds same (x ∷ word) (y ∷ k) = byte_holds same x word y k _ _ refl refl (tag_told same word k) (tag_holds same word k)

run_holds : (class : ℕ → Bool) (y : ℕ) (k : Bytes) (p : Bool) → both_cases (outside class) y ≡ p → Holds (run1 class) (y ∷ k) (deny_if p)
unfolding meaning
run_holds class y k false e = tt
run_holds class y k true e = begun
  where
    begun : (c rest : Bytes) → Spells (y ∷ k) c → Denies (meaning (run1 class)) (c ++ rest)
    begun [] rest s = absurd (false≢true s)
    begun (b ∷ c) rest s = in_class (outside class) y b e (and_parts _ _ s).0

after_holds : {A B : Type 0} (x : Rule A) (y : Rule B) (k : Bytes) (value : Bytes → A) (later : Bytes) (left : Bytes → Bytes) → Holds x k (told value later left) → (u : Told B) → Holds y later u → Holds (seq x y) k (after_told value left u)
unfolding meaning
after_holds x y k value later left h unknown g = tt
after_holds x y k value later left h denied g = λ c rest s. let a = h c rest s in inr (value c, left c ++ rest, a.1, g (left c) rest a.0)
after_holds x y k value later left h (told next more end) g = λ c rest s. let a = h c rest s in let b = g (left c) rest a.0 in (b.0, (left c ++ rest, a.1, b.1))

both_hold : {A B : Type 0} (x : Rule A) (y : Rule B) (k : Bytes) (t : Told A) → Holds x k t → ((later : Bytes) → Holds y later (tells y later)) → Holds (seq x y) k (both_told t (tells y))
unfolding meaning
both_hold x y k unknown h g = tt
both_hold x y k denied h g = λ c rest s. inl (h c rest s)
both_hold x y k (told value later left) h g = after_holds x y k value later left h (tells y later) (g later)

either_holds : {A : Type 0} (x y : Rule A) (k : Bytes) (t u : Told A) → Holds x k t → Holds y k u → Holds (alt x y) k (either_told t u)
unfolding meaning
either_holds x y k unknown u h g = tt
either_holds x y k denied unknown h g = tt
either_holds x y k denied denied h g = λ c rest s. inr (h c rest s, g c rest s)
either_holds x y k denied (told value later left) h g = λ c rest s. let b = g c rest s in (b.0, inr (h c rest s, b.1))
either_holds x y k (told value later left) u h g = λ c rest s. let a = h c rest s in (a.0, inl a.1)

given_holds : {A B : Type 0} (f : A → B) (x : Rule A) (k : Bytes) (t : Told A) → Holds x k t → Holds (gives f x) k (given_told f t)
unfolding meaning
given_holds f x k unknown h = tt
given_holds f x k denied h = h
given_holds f x k (told value later left) h = λ c rest s. let a = h c rest s in (a.0, (value c, a.1, refl))

-- a rule that denies what x does
denied_holds : {A B : Type 0} (x : Rule A) (r : Rule B) (k : Bytes) (t : Told A) → ((m : Bytes) → Denies (meaning x) m → Denies (meaning r) m) → Holds x k t → Holds r k (denied_told t)
denied_holds x r k unknown d h = tt
denied_holds x r k denied d h = λ c rest s. d (c ++ rest) (h c rest s)
denied_holds x r k (told value later left) d h = tt

holds : {V : Type 0} (r : Rule V) (k : Bytes) → Holds r k (tells r k)
unfolding meaning
holds (tag_by same word) k = tag_holds same word k
holds (run0 class) k = tt
holds (run1 class) [] = tt
holds (run1 class) (y ∷ k) = run_holds class y k _ refl
holds (seq x y) k = both_hold x y k (tells x k) (holds x k) (holds y)
holds (alt x y) k = either_holds x y k (tells x k) (tells y k) (holds x k) (holds y k)
holds (gives f x) k = given_holds f x k (tells x k) (holds x k)
holds (tested f x) k = denied_holds x (tested f x) k (tells x k) (λ m d. inl d) (holds x k)
holds (raw x) k = denied_holds x (raw x) k (tells x k) (λ m d. d) (holds x k)
holds (nothing x) k = λ c rest s. (s, (refl, refl))
holds never k = λ c rest s. refl
holds (many x) k = tt
holds (counted x) k = denied_holds x (counted x) k (tells x k) (λ m d. inl d) (holds x k)

-- ---- tables

-- the whole text gives the value
abbrev IsTold : {V : Type 0} → Told V → V → Type 0
IsTold unknown v = ⊥
IsTold denied v = ⊥
IsTold (told value later left) v = (later ≡ []) × ((c : Bytes) → value c ≡ v)

spelled_none : (d : Bytes) → Spells [] d → d ≡ []
spelled_none [] s = refl
spelled_none (b ∷ d) s = absurd (false≢true s)

read : {V : Type 0} (r : Rule V) (k : Bytes) (v : V) (t : Told V) → Holds r k t → IsTold t v → (c rest : Bytes) → Spells k c → (meaning r).yields (c ++ rest) v rest
read r k v unknown h is c rest s = absurd is
read r k v denied h is c rest s = absurd is
read r k v (told value later left) h is c rest s =
    let a = h c rest s in
    let none = spelled_none (left c) (subst (λ l. Spells l (left c)) is.0 a.0) in
    subst (λ w. (meaning r).yields (c ++ rest) w rest) (is.1 c) (subst (λ l. (meaning r).yields (c ++ rest) (value c) (l ++ rest)) none a.1)

-- of a row of a table: both parts by computation, with the rules unfolded
abbrev pub Computes : {V : Type 0} → Rule V → String × V → Type 0
Computes r (text, v) = IsTold (tells r (codes text)) v

pub all_read : {V : Type 0} (r : Rule V) (table : List (String × V)) → AllByRecursion (Computes r) table → AllByRecursion (IsReadBy r) table
all_read r [] h = tt
all_read r ((text, v) ∷ others) h = (read r (codes text) v (tells r (codes text)) (holds r (codes text)) h.0, all_read r others h.1)
