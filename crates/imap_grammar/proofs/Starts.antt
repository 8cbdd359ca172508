-- What the first byte says of a rule, for every rule; choices by their first byte.
use Rattle.std.proofs.Common.{◌≡◌, ◌≢◌, ℕ, zero, suc, ◌<◌, ◌⊎◌, Bool, true, false, List, [], ◌∷◌, get_or, Option, None, Some, Ok, Err, refl, sym, ap, ◌∙◌, inl, inr, arith}
use Prim.Native.String.{String}
use Rattle.std.specs.Prelude.{not, ◌&&◌, ◌||◌, ◌==◌, slice_get, codes}
use Rattle.std.proofs.Math.Nat.{eq-or-lt_of_le}
use Rattle.std.proofs.lemmas.Bool.{or_left, ne_eqb}
use Rattle.imap_grammar.specs.declared.answer.Err.TheVariants.{Incomplete, Error, Failure}
use Rattle.imap_grammar.specs.declared.answer.Needed.TheVariants.{Unknown}
use Rattle.imap_grammar.specs.Meaning.{Denies, Waits, differs}
use Rattle.imap_grammar.specs.Rule.{Rule, meaning, tag_by, run0, run1, seq, alt, gives, tested, raw, nothing, never, many, counted}
use Rattle.imap_grammar.specs.Step.{Step, step, ◌>>=◌, and_then, or_else}
use Rattle.imap_grammar.specs.Classes.{is_digit}
use Rattle.imap_grammar.specs.Starts.{may_start, word_starts, wants_byte, Starts}
use Rattle.imap_grammar.proofs.Agreement.{agrees}

word_denies : (same : ℕ → ℕ → Bool) (word m : List ℕ) (b : ℕ) → word_starts same word b ≡ false → differs same word (b ∷ m) ≡ true
word_denies same [] m b h = absurd cc
word_denies same (x ∷ word) m b h = or_left (not (same x b)) (differs same word m) (ap not h)

neither_starts : (p q : Bool) → (p || q) ≡ false → (p ≡ false) × (q ≡ false)
neither_starts true q h = absurd cc
neither_starts false q h = (refl, h)

pub denies : {V : Type 0} (r : Rule V) (b : ℕ) (m : List ℕ) → may_start r b ≡ false → Denies (meaning r) (b ∷ m)
unfolding meaning
denies (tag_by same word) b m h = word_denies same word m b h
denies (run0 class) b m h = absurd cc
denies (run1 class) b m h = ap not h
denies (seq x y) b m h = inl (denies x b m h)
denies (alt x y) b m h = let p = neither_starts (may_start x b) (may_start y b) h in inr (denies x b m p.0, denies y b m p.1)
denies (gives f x) b m h = denies x b m h
denies (tested f x) b m h = inl (denies x b m h)
denies (raw x) b m h = denies x b m h
denies (nothing x) b m h = absurd cc
denies never b m h = refl
denies (many x) b m h = absurd cc
denies (counted x) b m h = inl (denies x b m h)

pub waits : {V : Type 0} (r : Rule V) → wants_byte r ≡ true → Waits (meaning r) []
unfolding meaning
waits (tag_by same []) h = absurd cc
waits (tag_by same (x ∷ word)) h = refl
waits (run0 class) h = refl
waits (run1 class) h = refl
waits (seq x y) h = inl (waits x h)
waits (alt x y) h = inl (waits x h, λ q. cc)
waits (gives f x) h = waits x h
waits (tested f x) h = inl (waits x h)
waits (raw x) h = waits x h
waits (nothing x) h = absurd cc
waits never h = absurd cc
waits (many x) h = ([], [], refl, inl (waits x h, λ q. cc))
waits (counted x) h = inl (waits x h)

pub starts : {V : Type 0} (r : Rule V) → Starts r
starts r = record { denies = denies r; waits = waits r }

-- ---- by the step

pub denied : {V : Type 0} (r : Rule V) (b : ℕ) (m : List ℕ) → may_start r b ≡ false → step r (b ∷ m) ≡ Err Error
denied r b m h = (agrees r (b ∷ m)).fails Error (denies r b m h)

pub waited : {V : Type 0} (r : Rule V) → wants_byte r ≡ true → step r [] ≡ Err (Incomplete Unknown)
waited r h = (agrees r []).fails (Incomplete Unknown) (waits r h)

-- ---- choices

-- ---- choices by their first byte

-- of a choice the alternatives that are kept, in their order
pub data Kept : Type 0 → Type 1 where
  none : {V : Type 0} → Kept V
  rule : {V : Type 0} → Rule V → Kept V

abbrev keep_if : {V : Type 0} → Bool → Rule V → Kept V
keep_if true r = rule r
keep_if false r = none

abbrev either : {V : Type 0} → Kept V → Kept V → Kept V
either none y = y
either (rule x) none = rule x
either (rule x) (rule y) = rule (alt x y)

abbrev with_value : {A B : Type 0} → (A → B) → Kept A → Kept B
with_value f none = none
with_value f (rule x) = rule (gives f x)

abbrev with_rest : {A B : Type 0} → Kept A → Rule B → Kept (A × B)
with_rest none y = none
with_rest (rule x) y = rule (seq x y)

-- those that may start with a byte which `some` looks at
abbrev pub among : {V : Type 0} → ((ℕ → Bool) → Bool) → Rule V → Kept V
among some (alt x y) = either (among some x) (among some y)
among some (gives f x) = with_value f (among some x)
among some (seq x y) = with_rest (among some x) y
among some r = keep_if (some (may_start r)) r

abbrev pub step_of : {V : Type 0} → Kept V → List ℕ → Step V
step_of none m = Err Error
step_of (rule r) m = step r m

-- a byte that it looks at
abbrev LooksAt : ((ℕ → Bool) → Bool) → ℕ → Type 0
LooksAt some b = (q : ℕ → Bool) → some q ≡ false → q b ≡ false

keep_is : {V : Type 0} (r : Rule V) (some : (ℕ → Bool) → Bool) (b : ℕ) (m : List ℕ) (t : Bool) → some (may_start r) ≡ t → LooksAt some b → step r (b ∷ m) ≡ step_of (keep_if t r) (b ∷ m)
keep_is r some b m true e looks = refl
keep_is r some b m false e looks = denied r b m (looks (may_start r) e)

or_denied : {V : Type 0} (s : Step V) → or_else s (Err Error) ≡ s
or_denied (Ok x) = refl
or_denied (Err Error) = refl
or_denied (Err (Incomplete n)) = refl
or_denied (Err Failure) = refl

either_is : {V : Type 0} (x y : Kept V) (m : List ℕ) → or_else (step_of x m) (step_of y m) ≡ step_of (either x y) m
either_is none y m = refl
either_is (rule x) none m = or_denied (step x m)
either_is (rule x) (rule y) m = refl

with_value_is : {A B : Type 0} (f : A → B) (x : Kept A) (m : List ℕ) → (step_of x m >>= λ v. Ok (v.0, f v.1)) ≡ step_of (with_value f x) m
with_value_is f none m = refl
with_value_is f (rule x) m = refl

with_rest_is : {A B : Type 0} (x : Kept A) (y : Rule B) (m : List ℕ) → and_then (step_of x m) (step y) ≡ step_of (with_rest x y) m
with_rest_is none y m = refl
with_rest_is (rule x) y m = refl

among_is : {V : Type 0} (r : Rule V) (some : (ℕ → Bool) → Bool) (b : ℕ) (m : List ℕ) → LooksAt some b → step r (b ∷ m) ≡ step_of (among some r) (b ∷ m)
among_is (alt x y) some b m looks = rw (among_is x some b m looks, among_is y some b m looks) (either_is (among some x) (among some y) (b ∷ m))
among_is (gives f x) some b m looks = rw (among_is x some b m looks) (with_value_is f (among some x) (b ∷ m))
among_is (tag_by same word) some b m looks = keep_is (tag_by same word) some b m _ refl looks
among_is (run0 class) some b m looks = keep_is (run0 class) some b m _ refl looks
among_is (run1 class) some b m looks = keep_is (run1 class) some b m _ refl looks
among_is (seq x y) some b m looks = rw (among_is x some b m looks) (with_rest_is (among some x) y (b ∷ m))
among_is (tested f x) some b m looks = keep_is (tested f x) some b m _ refl looks
among_is (raw x) some b m looks = keep_is (raw x) some b m _ refl looks
among_is (nothing x) some b m looks = keep_is (nothing x) some b m _ refl looks
among_is {V} never some b m looks = keep_is {V = V} never some b m _ refl looks
among_is (many x) some b m looks = keep_is (many x) some b m _ refl looks
among_is (counted x) some b m looks = keep_is (counted x) some b m _ refl looks

-- Arms of a `match` on `i.first()`. Each form says that a choice answers as one rule where the first byte is such,
-- with no variable but the bytes, so that `using(..)` finds it; `by_..` of the same class proves it, with the rules
-- unfolded.

abbrev BeginsWith : ℕ → List ℕ → Type 0
BeginsWith b m = slice_get m 0 ≡ Some b

abbrev BeginsAny : List ℕ → List ℕ → Type 0
BeginsAny [] m = ⊥
BeginsAny (b ∷ []) m = BeginsWith b m
BeginsAny (b ∷ c ∷ bytes) m = BeginsWith b m ⊎ BeginsAny (c ∷ bytes) m

abbrev BeginsOther : List ℕ → List ℕ → Type 0
BeginsOther [] m = slice_get m 0 ≢ None
BeginsOther (b ∷ bytes) m = (slice_get m 0 ≢ Some b) × BeginsOther bytes m

abbrev first_in : (ℕ → Bool) → Option ℕ → Bool
first_in class None = false
first_in class (Some b) = class b

abbrev IsByte : List ℕ → Type 0
IsByte m = get_or m 0 0 < 256

-- no bytes: both wait
abbrev pub AtNone : {V : Type 0} → Rule V → Rule V → Type 0
AtNone r s = (m : List ℕ) → slice_get m 0 ≡ None → step r m ≡ step s m

-- one of these bytes
abbrev pub AtAny : {V : Type 0} → String → Rule V → Rule V → Type 0
AtAny k r s = (m : List ℕ) → BeginsAny (codes k) m → step r m ≡ step s m

-- a digit
abbrev pub AtDigit : {V : Type 0} → Rule V → Rule V → Type 0
AtDigit r s = (m : List ℕ) → IsByte m → first_in is_digit (slice_get m 0) ≡ true → step r m ≡ step s m

-- none of these bytes (`never` in place of s: denied); the same, and no digit
abbrev pub AtOther : {V : Type 0} → String → Rule V → Rule V → Type 0
AtOther k r s = (m : List ℕ) → IsByte m → BeginsOther (codes k) m → step r m ≡ step s m

abbrev pub AtOtherThanDigits : {V : Type 0} → String → Rule V → Rule V → Type 0
AtOtherThanDigits k r s = (m : List ℕ) → IsByte m → BeginsOther (codes k) m → first_in is_digit (slice_get m 0) ≡ false → step r m ≡ step s m

pub by_none : {V : Type 0} (r s : Rule V) → wants_byte r ≡ true → wants_byte s ≡ true → AtNone r s
by_none r s e f [] is = waited r e ∙ sym (waited s f)
by_none r s e f (b ∷ m) is = absurd cc

pub waits_without : {V : Type 0} (r : Rule V) (m : List ℕ) → slice_get m 0 ≡ None → wants_byte r ≡ true → step r m ≡ Err (Incomplete Unknown)
waits_without r [] is e = waited r e
waits_without r (b ∷ m) is e = absurd cc

-- both are the same where only those alternatives are kept that may start so (by `refl`, with the rules unfolded)
abbrev Alike : {V : Type 0} → ((ℕ → Bool) → Bool) → Rule V → Rule V → Type 0
Alike some r s = (m : List ℕ) → step_of (among some r) m ≡ step_of (among some s) m

abbrev pub any_byte : List ℕ → (ℕ → Bool) → Bool
any_byte [] q = false
any_byte (b ∷ bytes) q = q b || any_byte bytes q

same_first : (b c : ℕ) (m : List ℕ) → BeginsWith c (b ∷ m) → b ≡ c
same_first b c m h = cc

looks_at_any : (bytes : List ℕ) (b : ℕ) (m : List ℕ) → BeginsAny bytes (b ∷ m) → LooksAt (any_byte bytes) b
looks_at_any [] b m h q n = absurd h
looks_at_any (c ∷ []) b m h q n = ap q (same_first b c m h) ∙ (neither_starts (q c) false n).0
looks_at_any (c ∷ d ∷ bytes) b m h q n =
    let p = neither_starts (q c) (any_byte (d ∷ bytes) q) n in
    elim h [ inl is ↦ ap q (same_first b c m is) ∙ p.0 | inr later ↦ looks_at_any (d ∷ bytes) b m later q p.1 ]

begins_not : (bytes : List ℕ) → ¬ (BeginsAny bytes [])
begins_not [] h = h
begins_not (b ∷ []) h = cc
begins_not (b ∷ c ∷ bytes) h = elim h [ inl is ↦ cc | inr later ↦ begins_not (c ∷ bytes) later ]

by_bytes : {V : Type 0} (bytes : List ℕ) (r : Rule V) (m : List ℕ) → BeginsAny bytes m → step r m ≡ step_of (among (any_byte bytes) r) m
by_bytes bytes r [] h = absurd (begins_not bytes h)
by_bytes bytes r (b ∷ m) h = among_is r (any_byte bytes) b m (looks_at_any bytes b m h)

pub by_any : {V : Type 0} (k : String) (r s : Rule V) → Alike (any_byte (codes k)) r s → AtAny k r s
by_any k r s alike m h = by_bytes (codes k) r m h ∙ alike m ∙ sym (by_bytes (codes k) s m h)

-- of the bytes of a class, all 256 looked through

abbrev in_class : Bool → (ℕ → Bool) → ℕ → Bool
in_class true q b = q b
in_class false q b = false

abbrev any_below : (ℕ → Bool) → ℕ → Bool
any_below q zero = false
any_below q (suc n) = q n || any_below q n

abbrev pub any_in : (ℕ → Bool) → (ℕ → Bool) → Bool
any_in class q = any_below (λ b. in_class (class b) q b) 256

none_below : (q : ℕ → Bool) (n b : ℕ) → any_below q n ≡ false → b < n → q b ≡ false
none_below q zero b h lt = absurd (omega arith)
none_below q (suc n) b h lt =
    let p = neither_starts (q n) (any_below q n) h in
    elim (eq-or-lt_of_le {n = b} {m = n} (omega arith)) [ inl same ↦ ap q same ∙ p.0 | inr less ↦ none_below q n b p.1 less ]

class_is : (class q : ℕ → Bool) (b : ℕ) → in_class (class b) q b ≡ false → class b ≡ true → q b ≡ false
class_is class q b h is = rw is at h

by_class : {V : Type 0} (class : ℕ → Bool) (r : Rule V) (m : List ℕ) → IsByte m → first_in class (slice_get m 0) ≡ true → step r m ≡ step_of (among (any_in class) r) m
by_class class r [] lt is = absurd cc
by_class class r (b ∷ m) lt is = among_is r (any_in class) b m (λ q n. class_is class q b (none_below (λ k. in_class (class k) q k) 256 b n lt) is)

pub by_digit : {V : Type 0} (r s : Rule V) → Alike (any_in is_digit) r s → AtDigit r s
by_digit r s alike m lt is = by_class is_digit r m lt is ∙ alike m ∙ sym (by_class is_digit s m lt is)

abbrev pub is_other : List ℕ → ℕ → Bool
is_other [] b = true
is_other (c ∷ bytes) b = not (b == c) && is_other bytes b

abbrev pub is_other_than_digits : List ℕ → ℕ → Bool
is_other_than_digits bytes b = not (is_digit b) && is_other bytes b

others : (bytes : List ℕ) (b : ℕ) (m : List ℕ) → BeginsOther bytes (b ∷ m) → is_other bytes b ≡ true
others [] b m h = refl
others (c ∷ bytes) b m h =
    let other : (b == c) ≡ false = ne_eqb b c (λ e. h.0 (ap (λ x. Some x) e)) in
    rw (other, others bytes b m h.1) refl

not_other : (bytes : List ℕ) → ¬ (BeginsOther bytes [])
not_other [] h = h refl
not_other (b ∷ bytes) h = not_other bytes h.1

by_other_bytes : {V : Type 0} (bytes : List ℕ) (r : Rule V) (m : List ℕ) → IsByte m → BeginsOther bytes m → step r m ≡ step_of (among (any_in (is_other bytes)) r) m
by_other_bytes bytes r [] lt h = absurd (not_other bytes h)
by_other_bytes bytes r (b ∷ m) lt h = by_class (is_other bytes) r (b ∷ m) lt (others bytes b m h)

pub by_other : {V : Type 0} (k : String) (r s : Rule V) → Alike (any_in (is_other (codes k))) r s → AtOther k r s
by_other k r s alike m lt h = by_other_bytes (codes k) r m lt h ∙ alike m ∙ sym (by_other_bytes (codes k) s m lt h)

by_bytes_but_digits : {V : Type 0} (bytes : List ℕ) (r : Rule V) (m : List ℕ) → IsByte m → BeginsOther bytes m → first_in is_digit (slice_get m 0) ≡ false → step r m ≡ step_of (among (any_in (is_other_than_digits bytes)) r) m
by_bytes_but_digits bytes r [] lt h not_digit = absurd (not_other bytes h)
by_bytes_but_digits bytes r (b ∷ m) lt h not_digit = by_class (is_other_than_digits bytes) r (b ∷ m) lt (rw (not_digit, others bytes b m h) refl)

pub by_other_than_digits : {V : Type 0} (k : String) (r s : Rule V) → Alike (any_in (is_other_than_digits (codes k))) r s → AtOtherThanDigits k r s
by_other_than_digits k r s alike m lt h d = by_bytes_but_digits (codes k) r m lt h d ∙ alike m ∙ sym (by_bytes_but_digits (codes k) s m lt h d)
