-- A step is all that a meaning says at some bytes: so it yields one value and rest, or fails in one way, and not both.
use Rattle.std.specs.Prelude.{◌≡◌, ℕ, List, Ok, Err}
use Rattle.imap_grammar.specs.declared.answer.Err.{Err as Fault}
use Rattle.imap_grammar.specs.declared.answer.Err.TheVariants.{Failure}
use Rattle.imap_grammar.specs.Meaning.{Meaning}
use Rattle.imap_grammar.specs.Step.{Step}

pub record Is {V : Type 0} (r : Meaning V) (m : List ℕ) (s : Step V) : Type 0 where
  pub yields : (v : V) (rest : List ℕ) → r.yields m v rest → s ≡ Ok (rest, v)
  pub yielded : (v : V) (rest : List ℕ) → s ≡ Ok (rest, v) → r.yields m v rest
  pub fails : (e : Fault) → r.fails m e → s ≡ Err e
  pub failed : (e : Fault) → s ≡ Err e → r.fails m e
  pub never : ¬ (s ≡ Err Failure)
