-- The text of a list, as it is written: its first text, and the others in turn, each behind a space.
use Rattle.std.proofs.Common.{◌≡◌, ℕ, ◌-◌, ◌≤◌, List, [], ◌∷◌, ◌++◌, map, take, drop, get_or, length, refl, ap, sym, ◌∙◌, append_assoc, arith}
use Rattle.std.specs.Prelude.{decimal}
use Rattle.std.specs.List.{flat_map}
use Rattle.std.proofs.lemmas.List.{take_all}
use Rattle.std.proofs.lemmas.List.Folds.{flat_map-map}
use Rattle.imap_command.specs.OtherWords.{behind_space, spaced}
use Rattle.imap_command.specs.Sections.{behind_dot, dotted}

abbrev pub others : {X : Type 0} → List X → List X
others xs = take (length xs - 1) (drop 1 xs)

pub first_and_others : {X : Type 0} (text : X → List ℕ) (out : List ℕ) (xs : List X) (i : ℕ) (d : X) → 1 ≤ length xs → length (others xs) ≤ i → (out ++ text (get_or xs 0 d)) ++ flat_map (λ x. behind_space (text x)) (take i (others xs)) ≡ out ++ spaced (map text xs)
first_and_others text out [] i d some done = absurd (omega (arith, some))
first_and_others text out (first ∷ later) i d some done =
    let all : others (first ∷ later) ≡ later = take_all (length (first ∷ later) - 1) later (omega arith) in
    rw (take_all i (others (first ∷ later)) done, all)
    (append_assoc out (text first) (flat_map (λ x. behind_space (text x)) later)
    ∙ ap (λ more. out ++ (text first ++ more)) (sym (flat_map-map behind_space text later)))

-- the same of the numbers of a path, each of the others behind a dot
pub first_and_numbers : (out xs : List ℕ) (i d : ℕ) → 1 ≤ length xs → length (others xs) ≤ i → (out ++ decimal (get_or xs 0 d)) ++ flat_map behind_dot (take i (others xs)) ≡ out ++ dotted xs
first_and_numbers out [] i d some done = absurd (omega (arith, some))
first_and_numbers out (first ∷ later) i d some done =
    let all : others (first ∷ later) ≡ later = take_all (length (first ∷ later) - 1) later (omega arith) in
    rw (take_all i (others (first ∷ later)) done, all) (append_assoc out (decimal first) (flat_map behind_dot later))

pub map_twice : {X : Type 0} (f : List ℕ → List ℕ) (g : X → List ℕ) (xs : List X) → map f (map g xs) ≡ map (λ x. f (g x)) xs
map_twice f g [] = refl
map_twice f g (x ∷ xs) = ap (λ more. f (g x) ∷ more) (map_twice f g xs)
