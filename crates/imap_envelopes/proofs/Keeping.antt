-- What is kept rests on what it was found in.
use Rattle.std.proofs.Common.{ℕ, Option, Some, None, ap}
use Rattle.std.specs.Option.{option_map}
use Rattle.imap_grammar.specs.Text.{Bytes}
use Rattle.imap_body_types.specs.Spans.{Lookup, Rests}
use Rattle.imap_envelopes.specs.Keeping.{IsKeptOf}

pub kept_rests : {A B V : Type 0} (found : Lookup → A → V) (kept : Lookup → B → V) (m : Bytes) (q : ℕ) (x : A) (y : B) → IsKeptOf found kept m x y → Rests found q x → Rests kept q y
kept_rests found kept m q x y says h = record { same = λ n k alike. says.rests n k (h.same n k alike) }

abbrev value_or : {A : Type 0} → A → Option A → A
value_or d None = d
value_or d (Some x) = x

-- the same of one that may be missing, where it is there
pub kept_if_any : {A B V : Type 0} (found : Lookup → A → V) (kept : Lookup → B → V) (m : Bytes) (x : A) (y : B) → IsKeptOf found kept m x y → IsKeptOf (λ n. option_map (found n)) (λ n. option_map (kept n)) m (Some x) (Some y)
kept_if_any found kept m x y says = record { is = ap Some says.is; rests = λ n k alike. ap Some (says.rests n k (ap (value_or (found n x)) alike)) }
