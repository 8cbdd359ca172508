-- Where a reader may answer want of memory, and where it does not.
use Rattle.std.specs.Prelude.{◌≡◌, ◌≢◌, Result, ◌++◌, IsTrue, codes, Ok, IfErr, IsOk}
use Prim.Native.String.{String}
use Rattle.imap_grammar.specs.declared.answer.Err.{Err as Fault}
use Rattle.imap_grammar.specs.declared.answer.Err.TheVariants.{Failure}
use Rattle.imap_grammar.specs.Meaning.{is_word}
use Rattle.imap_grammar.specs.Rule.{Rule, meaning}
use Rattle.imap_grammar.specs.Step.{step}
use Rattle.imap_grammar.specs.Answer.{Returned}
use Rattle.imap_grammar.specs.Tags.{same_letter}
use Rattle.imap_grammar.specs.Text.{Bytes}

-- the word stands in front, its letters in either case
abbrev pub BeginsWord : String → Bytes → Type 0
BeginsWord k m =
    (front : Bytes)
    × (rest : Bytes)
    × (m ≡ front ++ rest)
    × IsTrue (is_word same_letter (codes k) front)

-- the rule yields a value of what stands in front
abbrev pub StartsWith : {V : Type 0} → Rule V → Bytes → Type 0
StartsWith {V} r m = (v : V) × (rest : Bytes) × (meaning r).yields m v rest

-- the rule yields a value of what stands in front, and this holds of what stands behind
abbrev pub Behind : {V : Type 0} → Rule V → (Bytes → Type 0) → Bytes → Type 0
Behind {V} r P m = (v : V) × (rest : Bytes) × (meaning r).yields m v rest × P rest

-- Want of memory is not answered.
abbrev pub NeverFails : {A : Type 0} → Result A Fault → Type 0
NeverFails result = IfErr result (λ e. e ≢ Failure)

-- Want of memory is answered only where this holds.
abbrev pub FailsOnlyIf : {A : Type 0} → Type 0 → Result A Fault → Type 0
FailsOnlyIf P result = IfErr result (λ e. e ≡ Failure → P)

-- Where the rule yields a value of this kind, the reader answers `Ok`, whatever memory there is.
abbrev pub SucceedsFor : {A V : Type 0} → (V → Type 0) → Rule V → Bytes → Returned A → Type 0
SucceedsFor {A} {V} kind r m result =
    (v : V) (rest : Bytes) → step r m ≡ Ok (rest, v) → kind v → IsOk result
