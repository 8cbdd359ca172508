-- An `==` that tells the value that a type is seen as: of lists, options, numbers and texts.
use Rattle.std.proofs.Common.{◌≡◌, ℕ, List, [], ◌∷◌, refl, sym, ap, ◌∙◌, Option, Some, None, Bool, true, false, map, nat_eq, eqb, eq-eqb, eqb→eq}
use Rattle.std.specs.Prelude.{option_map}
use Rattle.std.specs.Option.{option_eq}
use Rattle.std.specs.Global.{Global}
use Rattle.std.specs.Cow.{cow_str_bytes}
use Rattle.std.specs.declared.borrow.CowStr.{CowStr}
use Rattle.std.specs.declared.borrow.CowStr.TheVariants.{Borrowed, Owned}
use Rattle.std.proofs.lemmas.Bool.{and_parts, and_from}
use Rattle.std.proofs.lemmas.List.{map-id}
use Rattle.std.proofs.lemmas.Simd.{map-map}
pub use Rattle.imap_grammar.specs.Equality.{Tells}
use Rattle.imap_grammar.specs.Text.{Text, text_of, as_text, lent_text}
use Rattle.std.specs.Cmp.Lexicographic.{pointwise, same_text}

-- what `==` tells apart isn't told to be one
pub unequal : false ≡ true → ⊥
unequal h = absurd cc

-- values of different kinds aren't one: a proof for each pair of kinds, without a search
pub kinds_apart : {V : Type 0} (kind : V → ℕ) (a b : V) → eqb (kind a) (kind b) ≡ false → a ≡ b → ⊥
kinds_apart kind a b apart same = unequal (sym apart ∙ eq-eqb _ _ (ap kind same))

module _ {A V : Type 0} (eq : A → A → Bool) (view : A → V) (t : Tells eq view) where
  items_same : (xs ys : List A) → pointwise eq xs ys ≡ true → map view xs ≡ map view ys
  items_same [] [] h = refl
  items_same [] (y ∷ ys) h = cc
  items_same (x ∷ xs) [] h = cc
  items_same (x ∷ xs) (y ∷ ys) h = let parts = and_parts (eq x y) (pointwise eq xs ys) h in let p = t.same x y parts.0 in let q = items_same xs ys parts.1 in cc

  items_equal : (xs ys : List A) → map view xs ≡ map view ys → pointwise eq xs ys ≡ true
  items_equal [] [] h = refl
  items_equal [] (y ∷ ys) h = cc
  items_equal (x ∷ xs) [] h = cc
  items_equal (x ∷ xs) (y ∷ ys) h = and_from (eq x y) (pointwise eq xs ys) (t.equal x y cc) (items_equal xs ys cc)

  pub items_tell : Tells (pointwise eq) (map view)
  items_tell = record { same = items_same; equal = items_equal }

  option_same : (x y : Option A) → option_eq eq x y ≡ true → option_map view x ≡ option_map view y
  option_same None None h = refl
  option_same None (Some y) h = cc
  option_same (Some x) None h = cc
  option_same (Some x) (Some y) h = ap Some (t.same x y h)

  option_equal : (x y : Option A) → option_map view x ≡ option_map view y → option_eq eq x y ≡ true
  option_equal None None h = refl
  option_equal None (Some y) h = cc
  option_equal (Some x) None h = cc
  option_equal (Some x) (Some y) h = t.equal x y cc

  pub option_tells : Tells (option_eq eq) (option_map view)
  option_tells = record { same = option_same; equal = option_equal }

-- `==` of what f shows of a value
pub on_tells : {A B V : Type 0} (f : B → A) (eq : A → A → Bool) (view : A → V) → Tells eq view → Tells (λ x y. eq (f x) (f y)) (λ x. view (f x))
on_tells f eq view t = record { same = λ x y h. t.same (f x) (f y) h; equal = λ x y h. t.equal (f x) (f y) h }

pub numbers_tell : Tells nat_eq (λ n. n)
numbers_tell = record { same = λ x y h. eqb→eq x y (rw h tt); equal = λ x y h. eq-eqb x y h }

bytes_equal : (xs ys : List ℕ) → xs ≡ ys → pointwise nat_eq xs ys ≡ true
bytes_equal xs ys h = rw (sym h) (alike xs)
  where
    alike : (xs : List ℕ) → pointwise nat_eq xs xs ≡ true
    alike [] = refl
    alike (x ∷ xs) = and_from (nat_eq x x) (pointwise nat_eq xs xs) (eq-eqb x x refl) (alike xs)

pub text_tells : Tells (pointwise nat_eq) (λ (bytes : List ℕ). bytes)
text_tells = record { same = λ x y h. same_text x y (sym h); equal = bytes_equal }

-- `==` of texts, whichever is borrowed
lent_bytes : (x : CowStr Global) → lent_text (text_of x) ≡ as_text (cow_str_bytes x)
lent_bytes (Borrowed s) = refl
lent_bytes (Owned s) = refl

abbrev bytes_of : Text → List ℕ
bytes_of t = t.bytes

pub texts_tell : Tells (λ (x y : CowStr Global). pointwise nat_eq (cow_str_bytes x) (cow_str_bytes y)) (λ x. lent_text (text_of x))
texts_tell = record {
  same = λ x y h. lent_bytes x ∙ ap as_text (text_tells.same (cow_str_bytes x) (cow_str_bytes y) h) ∙ sym (lent_bytes y);
  equal = λ x y h. text_tells.equal (cow_str_bytes x) (cow_str_bytes y) (ap bytes_of (sym (lent_bytes x) ∙ h ∙ lent_bytes y));
}

-- ---- views in two steps, as texts are seen: by what they hold, and then lent

-- the same content in other words
pub retold : {A V : Type 0} {eq : A → A → Bool} (view other : A → V) → ((x : A) → view x ≡ other x) → Tells eq view → Tells eq other
retold view other is t = record {
  same = λ x y h. sym (is x) ∙ t.same x y h ∙ is y;
  equal = λ x y h. t.equal x y (is x ∙ h ∙ sym (is y));
}

pub lists_tell : {A B C : Type 0} (eq : A → A → Bool) (f : A → B) (g : B → C) → Tells eq (λ x. g (f x)) → Tells (pointwise eq) (λ xs. map g (map f xs))
lists_tell eq f g t = retold (λ xs. map (λ x. g (f x)) xs) (λ xs. map g (map f xs)) (λ xs. sym (map-map g f xs)) (items_tell eq (λ x. g (f x)) t)

-- lists of texts, and lists of what is seen as it is
pub text_lists_tell : Tells (pointwise (λ (x y : CowStr Global). pointwise nat_eq (cow_str_bytes x) (cow_str_bytes y))) (λ xs. map lent_text (map text_of xs))
text_lists_tell = lists_tell _ text_of lent_text texts_tell

pub plain_lists_tell : {A : Type 0} (eq : A → A → Bool) → Tells eq (λ x. x) → Tells (pointwise eq) (λ (xs : List A). xs)
plain_lists_tell eq t = retold (map (λ x. x)) (λ xs. xs) map-id (items_tell eq (λ x. x) t)

pub option_twice : {A B C : Type 0} (f : A → B) (g : B → C) (x : Option A) → option_map (λ v. g (f v)) x ≡ option_map g (option_map f x)
option_twice f g None = refl
option_twice f g (Some x) = refl

pub options_tell : {A B C : Type 0} (eq : A → A → Bool) (f : A → B) (g : B → C) → Tells eq (λ x. g (f x)) → Tells (option_eq eq) (λ x. option_map g (option_map f x))
options_tell eq f g t = retold (option_map (λ x. g (f x))) (λ x. option_map g (option_map f x)) (option_twice f g) (option_tells eq (λ x. g (f x)) t)
