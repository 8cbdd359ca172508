-- What std's `Clone` tells of a type whose copies take no memory.
use Rattle.std.specs.Prelude.{◌≡◌}

-- a copy is never refused, and it is the original
pub record CopiesFreely {A : Type 0}
    (is_infallible : A → Type 0) (is_clone : A → A → Type 0) :
    Type 0 where
  pub no_memory : (x : A) → is_infallible x
  pub same : (x copy : A) → is_clone x copy → copy ≡ x
