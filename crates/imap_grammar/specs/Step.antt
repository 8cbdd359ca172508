-- The answer of a rule as a function of the bytes, in the code's own words.
use Rattle.std.specs.Prelude.{ℕ, zero, suc, ◌-◌, Bool, List, [], ◌∷◌, length, take, drop, position, Option, None, Some, Result, Ok, Err, if◌then◌else◌, nat_lt}
use Rattle.std.specs.List.{zip, list_all}
use Rattle.imap_grammar.specs.declared.answer.Err.{Err as Fault}
use Rattle.imap_grammar.specs.declared.answer.Err.TheVariants.{Incomplete, Error, Failure}
use Rattle.imap_grammar.specs.declared.answer.Needed.TheVariants.{Unknown, Size}
use Rattle.imap_grammar.specs.Meaning.{outside}
use Rattle.imap_grammar.specs.Rule.{Rule, tag_by, run0, run1, seq, alt, gives, tested, raw, nothing, never, many, counted}

-- a rest and a value, or why there is none
abbrev pub Step : Type 0 → Type 0
Step V = Result (List ℕ × V) Fault

infixl 10 ◌>>=◌
abbrev pub ◌>>=◌ : {A B : Type 0} → Result A Fault → (A → Result B Fault) → Result B Fault
(Ok x) >>= f = f x
(Err e) >>= f = Err e

-- a value in front of the next one
abbrev pub beside : {A B : Type 0} → A → List ℕ × B → Step (A × B)
beside x y = Ok (y.0, (x, y.1))

abbrev pub and_then : {A B : Type 0} → Step A → (List ℕ → Step B) → Step (A × B)
and_then a b = a >>= λ x. b x.0 >>= beside x.1

-- after a denial, the other
abbrev pub or_else : {A : Type 0} → Step A → Step A → Step A
or_else (Ok x) other = Ok x
or_else (Err Error) other = other
or_else (Err (Incomplete n)) other = Err (Incomplete n)
or_else (Err Failure) other = Err Failure

unfoldable pub tag_step : (ℕ → ℕ → Bool) → List ℕ → List ℕ → Step (List ℕ)
tag_step same word m =
    if list_all (λ p. same p.0 p.1) (zip word m)
    then (if nat_lt (length m) (length word)
    then Err (Incomplete Unknown)
    else Ok (drop (length word) m, take (length word) m))
    else Err Error

abbrev pub cut_at : List ℕ → Option ℕ → Step (List ℕ)
cut_at m None = Err (Incomplete Unknown)
cut_at m (Some n) = Ok (drop n m, take n m)

unfoldable pub run0_step : (ℕ → Bool) → List ℕ → Step (List ℕ)
run0_step class m = cut_at m (position (outside class) m)

abbrev pub some_step : List ℕ → List ℕ → Step (List ℕ)
some_step rest [] = Err Error
some_step rest (b ∷ v) = Ok (rest, b ∷ v)

unfoldable pub run1_step : (ℕ → Bool) → List ℕ → Step (List ℕ)
run1_step class m = run0_step class m >>= λ x. some_step x.0 x.1

abbrev pub test_step : {A : Type 0} → List ℕ → Option A → Step A
test_step rest (Some v) = Ok (rest, v)
test_step rest None = Err Error

-- the bytes in front of the rest
abbrev pub raw_step : {A : Type 0} → List ℕ → List ℕ × A → Step (List ℕ)
raw_step m x = Ok (x.0, take (length m - length x.0) m)

abbrev pub many_then : {A : Type 0} → List ℕ → Step A → (List ℕ → Step (List A)) → Step (List A)
many_then m (Ok x) go =
    if nat_lt (length x.0) (length m)
    then (go x.0 >>= λ y. Ok (y.0, x.1 ∷ y.1))
    else Err (Incomplete Unknown)
many_then m (Err Error) go = Ok (m, [])
many_then m (Err (Incomplete n)) go = Err (Incomplete n)
many_then m (Err Failure) go = Err Failure

-- as often as it yields; fuel is above the number of bytes
unfoldable pub many_step : {A : Type 0} → (List ℕ → Step A) → ℕ → List ℕ → Step (List A)
many_step a zero m = Err (Incomplete Unknown)
many_step a (suc fuel) m = many_then m (a m) (many_step a fuel)

unfoldable pub take_step : ℕ → List ℕ → Step (List ℕ)
take_step k m =
    if nat_lt (length m) k
    then Err (Incomplete (Size (k - length m)))
    else Ok (drop k m, take k m)

abbrev pub step : {V : Type 0} → Rule V → List ℕ → Step V
step (tag_by same word) m = tag_step same word m
step (run0 class) m = run0_step class m
step (run1 class) m = run1_step class m
step (seq a b) m = and_then (step a m) (step b)
step (alt a b) m = or_else (step a m) (step b m)
step (gives f a) m = step a m >>= λ x. Ok (x.0, f x.1)
step (tested f a) m = step a m >>= λ x. test_step x.0 (f x.1)
step (raw a) m = step a m >>= raw_step m
step (nothing x) m = Ok (m, x)
step never m = Err Error
step (many a) m = many_step (step a) (suc (length m)) m
step (counted a) m = step a m >>= λ x. take_step x.1 x.0
