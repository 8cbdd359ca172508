-- Hashing of lists, whose items are seen by two views in turn, and of texts.
use Rattle.std.proofs.Common.{◌≡◌, ℕ, suc, List, [], ◌∷◌, length, map, refl, sym, ap, ◌∙◌, Global}
use Rattle.std.specs.List.{flat_map}
use Rattle.std.specs.Cow.{cow_str_bytes}
use Rattle.std.specs.Hash as hash
use Rattle.std.specs.declared.borrow.CowStr.{CowStr}
use Rattle.std.specs.declared.borrow.CowStr.TheVariants.{Borrowed, Owned}
use Rattle.imap_grammar.specs.Equality.{HashesAlike}
use Rattle.imap_grammar.specs.Text.{Text, text_of, lent_text}

-- what is hashed of a list: its length, and each item
pub record Alike {A : Type 0} (hash : A → List (List ℕ)) (xs ys : List A) : Type 0 where
  pub lengths : length xs ≡ length ys
  pub items : flat_map hash xs ≡ flat_map hash ys

pub lists_alike : {A V W : Type 0} (hash : A → List (List ℕ)) (v : A → V) (w : V → W) → HashesAlike hash (λ x. w (v x)) → (xs ys : List A) → map w (map v xs) ≡ map w (map v ys) → Alike hash xs ys
lists_alike hash v w alike [] [] h = record { lengths = refl; items = refl }
lists_alike hash v w alike [] (y ∷ ys) h = absurd cc
lists_alike hash v w alike (x ∷ xs) [] h = absurd cc
lists_alike hash v w alike (x ∷ xs) (y ∷ ys) h =
    let one = alike x y cc in
    let more = lists_alike hash v w alike xs ys cc in
    let lengths = more.lengths in
    let items = more.items in
    record { lengths = ap suc lengths; items = cc }

bytes_of : (x : CowStr Global) → cow_str_bytes x ≡ (lent_text (text_of x)).bytes
bytes_of (Borrowed s) = refl
bytes_of (Owned s) = refl

pub same_bytes : (x y : CowStr Global) → lent_text (text_of x) ≡ lent_text (text_of y) → cow_str_bytes x ≡ cow_str_bytes y
same_bytes x y h = bytes_of x ∙ ap (λ (t : Text). t.bytes) h ∙ sym (bytes_of y)

pub texts_alike : HashesAlike (λ (x : CowStr Global). hash.str (cow_str_bytes x)) (λ x. lent_text (text_of x))
texts_alike x y h = ap hash.str (same_bytes x y h)
