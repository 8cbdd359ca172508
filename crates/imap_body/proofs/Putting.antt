-- What a list says with one element put behind the others.
use Rattle.std.proofs.Common.{◌≡◌, List, [], ◌∷◌, ◌++◌, map, refl}
use Rattle.std.proofs.lemmas.List.{map-append}

pub put_behind : {A B : Type 0} (f : A → B) (x : A) (v : B) (xs ys zs : List A) → ys ≡ xs → zs ≡ ys ++ x ∷ [] → f x ≡ v → map f zs ≡ map f xs ++ v ∷ []
put_behind f x v xs ys zs same put says = rw (put, same, map-append f xs (x ∷ []), says) refl
