-- What the first of two alternatives that answers has put behind others was put there by both of them.
use Rattle.std.proofs.Common.{◌≡◌, ◌≢◌, ℕ, List, Result, Ok, Err, refl, drop}
use Rattle.imap_grammar.specs.declared.answer.Err.{Err as Fault}
use Rattle.imap_grammar.specs.declared.answer.Err.TheVariants.{Error, Incomplete, Failure}
use Rattle.imap_grammar.specs.Text.{Bytes}
use Rattle.imap_grammar.specs.Rule.{Rule, ◌or◌}
use Rattle.imap_grammar.specs.Step.{step}
use Rattle.imap_body_types.specs.Spans.{Lookup}
use Rattle.imap_bodystructure.specs.Kept.{PutsAt}

module _ {A V : Type 0} (r s : Rule V) (view : Lookup → A → V) (m : Bytes) (p : ℕ) (old new : List A) where
  pub put_first : (result : Result ℕ Fault) → result ≢ Err Error → PutsAt r view m p old new result → PutsAt (r or s) view m p old new result
  put_first (Ok q) other put = record { one = put.one; behind = put.behind; read = rw put.read refl; rests = put.rests }
  put_first (Err Error) other put = absurd (other refl)
  put_first (Err (Incomplete n)) other put = rw put refl
  put_first (Err Failure) other put = tt

  pub put_second : (result : Result ℕ Fault) → step r (drop p m) ≡ Err Error → PutsAt s view m p old new result → PutsAt (r or s) view m p old new result
  put_second result denied put = rw denied put
