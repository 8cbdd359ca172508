-- The end of a line may be read with the second of two parts as well as behind both.
use Rattle.std.specs.Prelude.{⊤}
use Rattle.std.proofs.Common.{◌≡◌, Ok, Err, refl}
use Rattle.imap_grammar.specs.Rule.{Rule, gives, ◌⨾◌}
use Rattle.imap_grammar.specs.Step.{Step, step, ◌>>=◌, and_then, beside}
use Rattle.imap_grammar.specs.Tags.{crlf}
use Rattle.imap_grammar.specs.Text.{Bytes}
use Rattle.imap_proto.specs.Lines.{ended, spaces, fetch, fetch_line}

pub ended_later : {A B C : Type 0} (f : A × B → C) (a : Rule A) (b : Rule B) (m : Bytes) → step (ended (gives f (a ⨾ b))) m ≡ step (gives f (a ⨾ ended b)) m
ended_later {A} {B} {C} f a b m = first (step a m)
  where
    End : Type 0
    End = Bytes × Bytes

    end : Bytes → Step End
    end = step (spaces ⨾ crlf)

    front : {X : Type 0} → Step (X × End) → Step X
    front {X} s = ◌>>=◌ {A = Bytes × (X × End)} s (λ x. Ok (x.0, x.1.0))

    mapped : Step (A × B) → Step C
    mapped s = ◌>>=◌ {A = Bytes × (A × B)} s (λ x. Ok (x.0, f x.1))

    behind : A → Step B → Step (A × B)
    behind x s = ◌>>=◌ {A = Bytes × B} s (beside x)

    third : (x : A) (y : Bytes × B) (s : Step End) → front (◌>>=◌ {A = Bytes × End} s (beside (f (x, y.1)))) ≡ mapped (behind x (front (◌>>=◌ {A = Bytes × End} s (beside y.1))))
    third x y (Ok z) = refl
    third x y (Err e) = refl

    second : (x : A) (s : Step B) → front (and_then (mapped (behind x s)) end) ≡ mapped (behind x (front (and_then s end)))
    second x (Ok y) = third x y (end y.0)
    second x (Err e) = refl

    first : (s : Step A) → front (and_then (mapped (and_then s (step b))) end) ≡ mapped (and_then s (λ r. front (and_then (step b r) end)))
    first (Ok x) = second x.1 (step b x.0)
    first (Err e) = refl

-- a line that tells of a message, down to its parts
unfoldable pub fetch_rules : ⊤
unfolding fetch_line fetch
fetch_rules = tt
