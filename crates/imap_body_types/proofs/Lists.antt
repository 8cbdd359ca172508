-- Lists that are mapped one by one.
use Rattle.std.proofs.Common.{◌≡◌, ℕ, List, [], ◌∷◌, ◌++◌, ◌+◌, ◌<◌, ◌≤◌, length, take, get_or, sym, ap, ◌∙◌, map}
use Rattle.std.proofs.lemmas.List.{map-append, map_more, take_all}

-- the next element of a list, mapped behind those before it
pub mapped_further : {A B V : Type 0} (f : A → V) (g : B → V) (xs : List A) (ys : List B) (k : ℕ) (x : A) (d : B) → k < length ys → map f xs ≡ map g (take k ys) → f x ≡ g (get_or ys k d) → map f (xs ++ (x ∷ [])) ≡ map g (take (k + 1) ys)
mapped_further f g xs ys k x d less before now = map-append f xs (x ∷ []) ∙ (λ i. before i ++ (now i ∷ [])) ∙ sym (map_more g ys k d less)

-- all of it
pub mapped_whole : {A B V : Type 0} (f : A → V) (g : B → V) (xs : List A) (ys : List B) (k : ℕ) → length ys ≤ k → map f xs ≡ map g (take k ys) → map f xs ≡ map g ys
mapped_whole f g xs ys k all h = h ∙ ap (map g) (take_all k ys all)
