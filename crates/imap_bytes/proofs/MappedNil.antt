-- NIL, or else a value that is mapped: what NIL or the value gives, mapped.
use Rattle.std.proofs.Common.{◌≡◌, ℕ, Bool, true, false, List, Ok, Err, Some, None, Option, refl, IsUtf8}
use Rattle.std.specs.Option.{option_map}
use Rattle.std.specs.Str.{is_utf8}
use Rattle.std.proofs.lemmas.Bool.{false≢true}
use Rattle.std.proofs.lemmas.Str.{IsUtf8-from_is_utf8}
use Rattle.imap_grammar.specs.declared.answer.Err.TheVariants.{Error, Incomplete, Failure}
use Rattle.imap_grammar.specs.Answer.{Returned}
use Rattle.imap_grammar.specs.Step.{Step, step, or_else, and_then, ◌>>=◌}
use Rattle.imap_grammar.specs.Rule.{Rule, gives}
use Rattle.imap_grammar.specs.Text.{decoded}
use Rattle.imap_bytes.specs.Strings.{nil, nil_or, string, nstring}
use Rattle.imap_bytes.specs.Texts.{string_utf8, nstring_utf8, holds_owned, FailsForOwned}

pub mapped_nil : {A B : Type 0} (f : A → B) (a : Rule A) (m : List ℕ) → step (nil_or (gives f a)) m ≡ step (gives (option_map f) (nil_or a)) m
mapped_nil {A} {B} f a m = by_cases (step nil m) (step a m)
  where
    none : {V : Type 0} → Step (List ℕ) → Step (Option V)
    none {V} n = ◌>>=◌ {A = List ℕ × (List ℕ × Option V)} (and_then n (λ r. Ok (r, None))) (λ x. Ok (x.0, x.1.1))

    some : {V : Type 0} → Step V → Step (Option V)
    some {V} s = ◌>>=◌ {A = List ℕ × V} s (λ x. Ok (x.0, Some x.1))

    by_cases : (n : Step (List ℕ)) (s : Step A) → or_else (none n) (some (◌>>=◌ {A = List ℕ × A} s (λ x. Ok (x.0, f x.1)))) ≡ ◌>>=◌ {A = List ℕ × Option A} (or_else (none n) (some s)) (λ x. Ok (x.0, option_map f x.1))
    by_cases (Ok x) s = refl
    by_cases (Err Error) (Ok y) = refl
    by_cases (Err Error) (Err e) = refl
    by_cases (Err (Incomplete n)) s = refl
    by_cases (Err Failure) s = refl

-- so a nil-or-string as text is what its bytes give, decoded
pub decoded_nstring : (m : List ℕ) → step nstring_utf8 m ≡ step (gives (option_map decoded) nstring) m
unfolding nstring_utf8 string_utf8 nstring
decoded_nstring m = mapped_nil decoded string m

-- the decoding of bytes that are not UTF-8
pub decoding_some : {A : Type 0} (m rest bytes : List ℕ) (result : Returned A) → step nstring m ≡ Ok (rest, Some bytes) → (IsUtf8 bytes → false ≡ true) → FailsForOwned holds_owned nstring_utf8 m result
decoding_some m rest bytes (Ok x) read n = tt
decoding_some m rest bytes (Err e) read n = λ q. (Some (decoded bytes), rest, rw (decoded_nstring m, read) refl, not_utf8 (is_utf8 bytes) refl)
  where
    not_utf8 : (b : Bool) → is_utf8 bytes ≡ b → is_utf8 bytes ≡ false
    not_utf8 true q = absurd (false≢true (n (IsUtf8-from_is_utf8 bytes q)))
    not_utf8 false q = q
