-- `NIL` in place of the fields, for which no memory is taken.
use Rattle.std.proofs.Common.{◌≡◌, ◌≢◌, Option, Ok, Err, refl, inl, inr}
use Rattle.imap_grammar.specs.declared.answer.Err.{Err as Fault}
use Rattle.imap_grammar.specs.declared.answer.Err.TheVariants.{Incomplete, Error, Failure}
use Rattle.imap_grammar.specs.Answer.{Returned, Gives}
use Rattle.imap_grammar.specs.Memory.{BeginsWord, FailsOnlyIf, SucceedsFor}
use Rattle.imap_grammar.specs.Rule.{meaning}
use Rattle.imap_grammar.specs.Step.{step}
use Rattle.imap_grammar.specs.Text.{Bytes}
use Rattle.imap_grammar.proofs.Agreement.{reads}
use Rattle.imap_grammar.proofs.Memory.{none_yielded, never_both}
use Rattle.imap_grammar.proofs.Yields.{Yields, made_yields}
use Rattle.imap_bytes.specs.Strings.{nil}
use Rattle.imap_extensions.specs.Ids.{IdValue, IsNil, params_of, some_params, id_params}

params_made : Yields (λ v. ¬ (IsNil v)) some_params
params_made = made_yields params_of (λ v h. h)

-- where a list is open, `NIL` is not yielded
opened : (v : Option IdValue) (m rest : Bytes) → BeginsWord "(" m → step id_params m ≡ Ok (rest, v) → ¬ (IsNil v)
unfolding id_params nil meaning
opened v m rest b is = elim (reads id_params m rest v is) [
  | inl y ↦ params_made.each m v rest y
  | inr y ↦ absurd (never_both "(" "NIL" m refl b (y.1.0.0, y.1.1.0, y.1.1.1.0, y.1.1.1.1))
]

-- the reader of the list failed, and did not deny
pub list_failed : {A B : Type 0} (m : Bytes) (e : Fault) (view : B → Option IdValue) (part : Returned B) (result : Returned A) → part ≡ Err e → e ≢ Error → Gives view part (step some_params m) → FailsOnlyIf (BeginsWord "(" m) part
    → SucceedsFor IsNil id_params m result
unfolding id_params
list_failed m e view (Ok x) result is other g f = absurd cc
list_failed m e view (Err Error) result is other g f = absurd (other cc)
list_failed m e view (Err (Incomplete n)) result is other g f = none_yielded IsNil id_params m (Incomplete n) result (rw g refl)
list_failed m e view (Err Failure) result is other g f = λ v rest y k. absurd (opened v m rest (f refl) y k)
