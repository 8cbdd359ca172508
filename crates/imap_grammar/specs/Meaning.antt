-- What a rule says of a list of bytes: which value it yields and what it leaves, or by which fault it yields nothing.
-- The forms that rules are joined by stand over meanings, so that the answers of a reader that is passed as a closure
-- join alike.
use Rattle.std.specs.Prelude.{◌≡◌, ◌≢◌, ℕ, ◌-◌, ◌<◌, ◌⊎◌, Bool, true, false, not, ◌&&◌, ◌||◌, List, [], ◌∷◌, ◌++◌, length, Option, None, Some, IsTrue}
use Rattle.std.specs.List.{list_all}
use Rattle.imap_grammar.specs.declared.answer.Err.{Err as Fault}
use Rattle.imap_grammar.specs.declared.answer.Err.TheVariants.{Incomplete, Error, Failure}
use Rattle.imap_grammar.specs.declared.answer.Needed.TheVariants.{Unknown, Size}

pub record Meaning (V : Type 0) : Type 1 where
  pub yields : List ℕ → V → List ℕ → Type 0
  pub fails : List ℕ → Fault → Type 0

-- no bytes behind these can make it yield
abbrev pub Denies : {V : Type 0} → Meaning V → List ℕ → Type 0
Denies r m = r.fails m Error

-- so many more bytes are needed
abbrev pub Lacks : {V : Type 0} → Meaning V → List ℕ → ℕ → Type 0
Lacks r m n = r.fails m (Incomplete (Size n))

-- more bytes are needed, and it does not say how many
abbrev pub Waits : {V : Type 0} → Meaning V → List ℕ → Type 0
Waits r m = r.fails m (Incomplete Unknown)

-- ---- bytes

-- v is as long as the word, and each byte is the same as the word's
abbrev pub is_word : (ℕ → ℕ → Bool) → List ℕ → List ℕ → Bool
is_word same [] [] = true
is_word same (x ∷ word) (b ∷ v) = same x b && is_word same word v
is_word same _ _ = false

-- m and the word differ at a place that both have
abbrev pub differs : (ℕ → ℕ → Bool) → List ℕ → List ℕ → Bool
differs same (x ∷ word) (b ∷ m) = not (same x b) || differs same word m
differs same _ _ = false

-- m is shorter than the word, and the same as far as it goes
abbrev pub is_begun : (ℕ → ℕ → Bool) → List ℕ → List ℕ → Bool
is_begun same [] m = false
is_begun same (x ∷ word) [] = true
is_begun same (x ∷ word) (b ∷ m) = same x b && is_begun same word m

-- m is not empty, and its first byte passes
abbrev pub begins : (ℕ → Bool) → List ℕ → Bool
begins p [] = false
begins p (b ∷ m) = p b

abbrev pub outside : (ℕ → Bool) → ℕ → Bool
outside class b = not (class b)

-- a word: denied at the first byte that differs; it waits where the bytes end before that
abbrev pub tag_fails : (ℕ → ℕ → Bool) → List ℕ → List ℕ → Fault → Type 0
tag_fails same word m Error = IsTrue (differs same word m)
tag_fails same word m (Incomplete Unknown) = IsTrue (is_begun same word m)
tag_fails same word m (Incomplete (Size n)) = ⊥
tag_fails same word m Failure = ⊥

abbrev pub tag_means : (ℕ → ℕ → Bool) → List ℕ → Meaning (List ℕ)
tag_means same word =
    record {
      yields = λ m v rest. (m ≡ v ++ rest) × IsTrue (is_word same word v);
      fails = tag_fails same word;
    }

-- a run: all of v is in the class, and a byte outside it follows
abbrev pub RunsTo : (ℕ → Bool) → List ℕ → List ℕ → List ℕ → Type 0
RunsTo class m v rest =
    (m ≡ v ++ rest) × IsTrue (list_all class v) × IsTrue (begins (outside class) rest)

-- it waits where all bytes are in the class
abbrev pub run0_fails : (ℕ → Bool) → List ℕ → Fault → Type 0
run0_fails class m Error = ⊥
run0_fails class m (Incomplete Unknown) = IsTrue (list_all class m)
run0_fails class m (Incomplete (Size n)) = ⊥
run0_fails class m Failure = ⊥

abbrev pub run0_means : (ℕ → Bool) → Meaning (List ℕ)
run0_means class = record { yields = RunsTo class; fails = run0_fails class }

-- a run of at least one byte: denied where the first is outside the class
abbrev pub run1_fails : (ℕ → Bool) → List ℕ → Fault → Type 0
run1_fails class m Error = IsTrue (begins (outside class) m)
run1_fails class m (Incomplete Unknown) = IsTrue (list_all class m)
run1_fails class m (Incomplete (Size n)) = ⊥
run1_fails class m Failure = ⊥

abbrev pub run1_means : (ℕ → Bool) → Meaning (List ℕ)
run1_means class =
    record {
      yields = λ m v rest. RunsTo class m v rest × (0 < length v);
      fails = run1_fails class;
    }

-- ---- joining

-- A B
abbrev pub seq_means : {A B : Type 0} → Meaning A → Meaning B → Meaning (A × B)
seq_means {A} {B} a b =
    record {
      yields = λ m v rest. (mid : List ℕ) × a.yields m v.0 mid × b.yields mid v.1 rest;
      fails = λ m e. a.fails m e ⊎ ((x : A) × (mid : List ℕ) × a.yields m x mid × b.fails mid e);
    }

-- A / B: B only where A denies
abbrev pub alt_means : {A : Type 0} → Meaning A → Meaning A → Meaning A
alt_means a b =
    record {
      yields = λ m v rest. a.yields m v rest ⊎ (a.fails m Error × b.yields m v rest);
      fails = λ m e. (a.fails m e × e ≢ Error) ⊎ (a.fails m Error × b.fails m e);
    }

-- A, with the value that f makes of A's
abbrev pub gives_means : {A B : Type 0} → (A → B) → Meaning A → Meaning B
gives_means {A} f a =
    record {
      yields = λ m v rest. (x : A) × a.yields m x rest × (f x ≡ v);
      fails = λ m e. a.fails m e;
    }

-- A with a test, which also makes the value: denied where it makes none
abbrev pub tested_means : {A B : Type 0} → (A → Option B) → Meaning A → Meaning B
tested_means {A} f a =
    record {
      yields = λ m v rest. (x : A) × a.yields m x rest × (f x ≡ Some v);
      fails =
          λ m e.
          a.fails m e
          ⊎ ((e ≡ Error) × (x : A) × (rest : List ℕ) × a.yields m x rest × (f x ≡ None));
    }

-- A, with the bytes that it takes as the value
abbrev pub raw_means : {A : Type 0} → Meaning A → Meaning (List ℕ)
raw_means {A} a =
    record {
      yields = λ m v rest. (x : A) × a.yields m x rest × (m ≡ v ++ rest);
      fails = λ m e. a.fails m e;
    }

-- nothing: this value, on all bytes
abbrev pub nothing_means : {A : Type 0} → A → Meaning A
nothing_means x = record { yields = λ m v rest. (x ≡ v) × (m ≡ rest); fails = λ m e. ⊥ }

-- denied, on all bytes
abbrev pub never_means : {A : Type 0} → Meaning A
never_means = record { yields = λ m v rest. ⊥; fails = λ m e. e ≡ Error }

-- each of vs in its turn, and then rest
abbrev pub Cuts : {A : Type 0} → Meaning A → List ℕ → List A → List ℕ → Type 0
Cuts a m [] rest = m ≡ rest
Cuts a m (v ∷ vs) rest = (mid : List ℕ) × a.yields m v mid × Cuts a mid vs rest

-- what stops A* behind its cuts: a fault that is no denial; where A takes nothing it would go on for ever, and so waits
abbrev pub Halts : {A : Type 0} → Meaning A → List ℕ → Fault → Type 0
Halts {A} a m e = (a.fails m e × e ≢ Error) ⊎ ((e ≡ Incomplete Unknown) × (x : A) × a.yields m x m)

-- A*
abbrev pub many_means : {A : Type 0} → Meaning A → Meaning (List A)
many_means {A} a =
    record {
      yields = λ m vs rest. Cuts a m vs rest × a.fails rest Error;
      fails = λ m e. (vs : List A) × (rest : List ℕ) × Cuts a m vs rest × Halts a rest e;
    }

-- A's number, and as many bytes of any value: where fewer follow, the others are lacking
abbrev pub counted_means : Meaning ℕ → Meaning (List ℕ)
counted_means a =
    record {
      yields = λ m v rest. (mid : List ℕ) × a.yields m (length v) mid × (mid ≡ v ++ rest);
      fails = λ m e.
          a.fails m e
          ⊎ ((k : ℕ) × (mid : List ℕ)
          × a.yields m k mid × (length mid < k) × (e ≡ Incomplete (Size (k - length mid))));
    }
