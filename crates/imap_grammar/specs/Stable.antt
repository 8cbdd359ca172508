-- A rule has one answer on some bytes. Bytes that are appended change neither a yield nor a denial; and where n bytes
-- are lacking, k appended ones (k < n) leave n - k lacking.
use Rattle.std.specs.Prelude.{◌≡◌, ℕ, ◌-◌, ◌<◌, List, [], ◌++◌, length}
use Rattle.imap_grammar.specs.declared.answer.Err.TheVariants.{Failure}
use Rattle.imap_grammar.specs.Meaning.{Denies, Lacks, Waits}
use Rattle.imap_grammar.specs.Rule.{Rule, meaning}
use Rattle.imap_grammar.specs.Answer.{Neither}

pub record Stable {V : Type 0} (r : Rule V) : Type 0 where
  -- at most one of the three holds
  pub yields_not_denies :
      (m : List ℕ) (v : V) (rest : List ℕ) → (meaning r).yields m v rest → ¬ (Denies (meaning r) m)
  pub yields_not_lacks :
      (m : List ℕ) (v : V) (rest : List ℕ) (n : ℕ) → (meaning r).yields m v rest →
      ¬ (Lacks (meaning r) m n)
  pub denies_not_lacks : (m : List ℕ) (n : ℕ) → Denies (meaning r) m → ¬ (Lacks (meaning r) m n)
  -- a rule knows no want of memory: only a reader does
  pub no_failure : (m : List ℕ) → ¬ ((meaning r).fails m Failure)
  -- it waits exactly where none does
  pub waits : (m : List ℕ) → Waits (meaning r) m → Neither (meaning r) m
  pub neither : (m : List ℕ) → Neither (meaning r) m → Waits (meaning r) m
  -- one value and one rest; one number lacking, above 0
  pub one_yield :
      (m : List ℕ) (v w : V) (rest more : List ℕ) → (meaning r).yields m v rest →
      (meaning r).yields m w more → (v ≡ w) × (rest ≡ more)
  pub one_lack : (m : List ℕ) (n k : ℕ) → Lacks (meaning r) m n → Lacks (meaning r) m k → n ≡ k
  pub some_lack : (m : List ℕ) (n : ℕ) → Lacks (meaning r) m n → 0 < n
  -- the rest is an end of the bytes
  pub cut :
      (m : List ℕ) (v : V) (rest : List ℕ) → (meaning r).yields m v rest →
      (front : List ℕ) × (m ≡ front ++ rest)
  -- with t appended
  pub yields_more :
      (m : List ℕ) (v : V) (rest t : List ℕ) → (meaning r).yields m v rest →
      (meaning r).yields (m ++ t) v (rest ++ t)
  pub denies_more : (m t : List ℕ) → Denies (meaning r) m → Denies (meaning r) (m ++ t)
  pub lacks_more :
      (m : List ℕ) (n : ℕ) (t : List ℕ) → Lacks (meaning r) m n → length t < n →
      Lacks (meaning r) (m ++ t) (n - length t)

-- What is lacking is all that is: with as many bytes, of any value, the rule yields, and leaves none.
pub record LacksAll {V : Type 0} (r : Rule V) : Type 0 where
  pub enough :
      (m : List ℕ) (n : ℕ) (t : List ℕ) → Lacks (meaning r) m n → length t ≡ n →
      (v : V) × (meaning r).yields (m ++ t) v []
