-- Where a run ends.
use Rattle.std.proofs.Common.{◌≡◌, ◌≢◌, ℕ, zero, suc, ◌<◌, Bool, List, [], ◌∷◌, length, take, drop, Some, None, Ok, Err, refl, arith}
use Rattle.std.specs.Prelude.{position}
use Rattle.imap_grammar.specs.declared.answer.Err.TheVariants.{Incomplete, Error}
use Rattle.imap_grammar.specs.declared.answer.Needed.TheVariants.{Unknown}
use Rattle.imap_grammar.specs.Meaning.{outside}
use Rattle.imap_grammar.specs.Rule.{run1}
use Rattle.imap_grammar.specs.Step.{step, run0_step, run1_step}

pub run1_none : (class : ℕ → Bool) (m : List ℕ) → None ≡ position (outside class) m → step (run1 class) m ≡ Err (Incomplete Unknown)
unfolding run0_step run1_step
run1_none class m e = rw (← e) refl

pub run1_first : (class : ℕ → Bool) (m : List ℕ) → Some 0 ≡ position (outside class) m → step (run1 class) m ≡ Err Error
unfolding run0_step run1_step
run1_first class m e = rw (← e) refl

pub run1_some : (class : ℕ → Bool) (m : List ℕ) (n : ℕ) → n ≢ 0 → n < length m → Some n ≡ position (outside class) m → step (run1 class) m ≡ Ok (drop n m, take n m)
unfolding run0_step run1_step
run1_some class m zero ne lt e = absurd (ne refl)
run1_some class [] (suc n) ne lt e = absurd (omega arith)
run1_some class (b ∷ m) (suc n) ne lt e = rw (← e) refl
