-- What `==` tells of trees: of a value, by what it tells of the values inside.
use Rattle.std.proofs.Common.{◌≡◌, refl, sym, ap, ◌∙◌, subst, Bool, true, false, map, nat_eq, List, [], ◌∷◌}
use Rattle.std.specs.Option.{option_map, option_eq}
use Rattle.std.specs.List.{AllByRecursion}
use Rattle.std.specs.Cmp.Lexicographic.{pointwise}
use Rattle.std.specs.declared.cmp.PartialEq as partial
use Rattle.std.specs.contracts.cmp.PartialEq.TheBound as bound
use Rattle.std.proofs.lemmas.Bool.{and_parts, and_from}
use denote.RattleType.{RattleType}
use denote.Enum.Compared.{by}
use mir.Syntax.{Dict}
use Rattle.imap_grammar.specs.Text.{Text, lent_text}
use Rattle.imap_grammar.specs.Equality.{Tells}
use Rattle.imap_grammar.proofs.Seen.{options_tell, numbers_tell}
use Rattle.imap_body_types.specs.ExtensionValues.{ExtensionValue, Num, Str, Listed, Extensions, no_extensions, one_extension, extensions_of, extension_step, extension_seen}
use Rattle.imap_body_types.specs.Lent.{lent_ntext, lent_extension, lent_extensions, lent_last}
use Rattle.imap_body_types.specs.declared.shapes.extensions.BodyExtension.{BodyExtension, BodyExtension-F, roll-BodyExtension, out-BodyExtension, roll-out-BodyExtension, out-roll-BodyExtension, map-BodyExtension, fold-roll-BodyExtension}
use Rattle.imap_body_types.specs.declared.shapes.extensions.BodyExtension.TheOpen as extension_layer
use Rattle.imap_body_types.specs.declared.shapes.extensions.BodyExtension.TheBlock as extension_block
use Rattle.imap_body_types.specs.contracts.shapes.extensions.BodyExtension as extension_type
use Rattle.imap_body_types.specs.contracts.shapes.extensions.BodyExtensionPartialEq.TheImpl as extension_eq
use Rattle.imap_body_types.specs.contracts.shapes.extensions.BodyExtensionPartialEq.TheImpl.Laws as extension_laws
use Rattle.imap_body_types.proofs.Equality.{ntexts_tell}

-- `==` of x and any other
pub record At {A V : Type 0} (eq : A → A → Bool) (view : A → V) (x : A) : Type 0 where
  pub same : (y : A) → eq x y ≡ true → view x ≡ view y
  pub equal : (y : A) → view x ≡ view y → eq x y ≡ true

pub everywhere : {A V : Type 0} {eq : A → A → Bool} {view : A → V} → ((x : A) → At eq view x) → Tells eq view
everywhere a = record { same = λ x y h. (a x).same y h; equal = λ x y h. (a x).equal y h }

module _ {A V : Type 0} (eq : A → A → Bool) (view : A → V) where
  items_same : (xs ys : List A) → AllByRecursion (At eq view) xs → pointwise eq xs ys ≡ true → map view xs ≡ map view ys
  items_same [] [] a h = refl
  items_same [] (y ∷ ys) a h = cc
  items_same (x ∷ xs) [] a h = cc
  items_same (x ∷ xs) (y ∷ ys) a h = let parts = and_parts (eq x y) (pointwise eq xs ys) h in let p = a.0.same y parts.0 in let q = items_same xs ys a.1 parts.1 in cc

  items_equal : (xs ys : List A) → AllByRecursion (At eq view) xs → map view xs ≡ map view ys → pointwise eq xs ys ≡ true
  items_equal [] [] a h = refl
  items_equal [] (y ∷ ys) a h = cc
  items_equal (x ∷ xs) [] a h = cc
  items_equal (x ∷ xs) (y ∷ ys) a h = and_from (eq x y) (pointwise eq xs ys) (a.0.equal y cc) (items_equal xs ys a.1 cc)

  pub items_at : (xs : List A) → AllByRecursion (At eq view) xs → At (pointwise eq) (map view) xs
  items_at xs a = record { same = λ ys h. items_same xs ys a h; equal = λ ys h. items_equal xs ys a h }

-- from a layer to the value that it is rolled into
module _ {T F V : Type 0} (roll : F → T) (out : T → F) (whole : (x : T) → roll (out x) ≡ x) (eq : T → T → Bool) (view : T → V) (layer_eq : F → F → Bool) (layer_view : F → V)
    (opened : (x y : F) → eq (roll x) (roll y) ≡ layer_eq x y) (shown : (x : F) → view (roll x) ≡ layer_view x) where
  pub rolled : (x : F) → At layer_eq layer_view x → At eq view (roll x)
  rolled x a = record {
    same = λ y h. shown x ∙ a.same (out y) (sym (opened x (out y)) ∙ ap (eq (roll x)) (whole y) ∙ h) ∙ sym (shown (out y)) ∙ ap view (whole y);
    equal = λ y h. ap (eq (roll x)) (sym (whole y)) ∙ opened x (out y) ∙ a.equal (out y) (sym (shown x) ∙ h ∙ ap view (sym (whole y)) ∙ shown (out y));
  }

-- ---- extensions

listed : Extensions → List ExtensionValue
listed no_extensions = []
listed (one_extension e es) = e ∷ listed es

members : ExtensionValue → List ExtensionValue
members (Num n) = []
members (Str s) = []
members (Listed es) = listed es

listed_is : (es : List ExtensionValue) → listed (extensions_of es) ≡ es
unfolding listed
listed_is [] = refl
listed_is (e ∷ es) = ap (λ l. e ∷ l) (listed_is es)

module _ (S : RattleType) (q : partial.Ghosts S.Denot) (d : Dict) (lawful : bound.Lawful S q d) (f : S.Denot → Text) (t : Tells q.eq (λ s. lent_text (f s))) where
  abbrev Extension : Type 0
  Extension = BodyExtension S.Denot

  abbrev ExtensionLayer : Type 0
  ExtensionLayer = BodyExtension-F S.Denot Extension

  abbrev eq : Extension → Extension → Bool
  eq = (extension_eq.eq-value S q d).it

  abbrev view : Extension → ExtensionValue
  view x = lent_extension (extension_seen f x)

  abbrev roll : ExtensionLayer → Extension
  roll = roll-BodyExtension S.Denot

  abbrev out : Extension → ExtensionLayer
  out = out-BodyExtension S.Denot

  abbrev layer_eq : ExtensionLayer → ExtensionLayer → Bool
  layer_eq x y =
      by false false (extension_type.enum S).parts (λ a b. nat_eq a.0 b.0, (λ a b. option_eq q.eq a.0 b.0, (λ a b. pointwise eq a.0.items b.0.items, tt)))
      (extension_block.split-BodyExtension S.Denot (λ i. Extension) x) (extension_block.split-BodyExtension S.Denot (λ i. Extension) y)

  layer_view : ExtensionLayer → ExtensionValue
  layer_view (extension_layer.Num n) = Num n
  layer_view (extension_layer.Str s) = Str (lent_ntext (option_map f s))
  layer_view (extension_layer.List v) = Listed (extensions_of (map view v.items))

  opened : (x y : ExtensionLayer) → eq (roll x) (roll y) ≡ layer_eq x y
  opened x y = extension_laws.is S q d lawful (roll x) (roll y) ∙ (λ i. layer_eq (out-roll-BodyExtension S.Denot x i) (out-roll-BodyExtension S.Denot y i))

  all_lent : (xs : List Extension) → lent_extensions (extensions_of (map (extension_seen f) xs)) ≡ extensions_of (map view xs)
  all_lent [] = refl
  all_lent (x ∷ xs) = ap (one_extension (view x)) (all_lent xs)

  said : (x : ExtensionLayer) → extension_seen f (roll x) ≡ extension_step f (map-BodyExtension S.Denot Extension ExtensionValue (extension_seen f) x)
  said = fold-roll-BodyExtension S.Denot ExtensionValue (extension_step f)

  shown : (x : ExtensionLayer) → view (roll x) ≡ layer_view x
  unfolding layer_view
  shown (extension_layer.Num n) = ap lent_extension (said (extension_layer.Num n))
  shown (extension_layer.Str s) = ap lent_extension (said (extension_layer.Str s))
  shown (extension_layer.List v) = ap lent_extension (said (extension_layer.List v)) ∙ ap Listed (all_lent v.items)

  abbrev Inside : ExtensionLayer → Type 0
  Inside (extension_layer.Num n) = Unit {0}
  Inside (extension_layer.Str s) = Unit {0}
  Inside (extension_layer.List v) = AllByRecursion (At eq view) v.items

  layer_same : (x y : ExtensionLayer) → Inside x → layer_eq x y ≡ true → layer_view x ≡ layer_view y
  unfolding layer_view
  layer_same (extension_layer.Num x) (extension_layer.Num y) a h = ap Num (numbers_tell.same x y h)
  layer_same (extension_layer.Str x) (extension_layer.Str y) a h = ap Str ((ntexts_tell S q d f t).same x y h)
  layer_same (extension_layer.List x) (extension_layer.List y) a h = ap (λ l. Listed (extensions_of l)) ((items_at eq view x.items a).same y.items h)
  layer_same x y a h = cc

  layer_equal : (x y : ExtensionLayer) → Inside x → layer_view x ≡ layer_view y → layer_eq x y ≡ true
  unfolding layer_view members
  layer_equal (extension_layer.Num x) (extension_layer.Num y) a h = numbers_tell.equal x y cc
  layer_equal (extension_layer.Str x) (extension_layer.Str y) a h = (ntexts_tell S q d f t).equal x y cc
  layer_equal (extension_layer.List x) (extension_layer.List y) a h = (items_at eq view x.items a).equal y.items (sym (listed_is (map view x.items)) ∙ ap members h ∙ listed_is (map view y.items))
  layer_equal x y a h = cc

  at_roll : (x : ExtensionLayer) → Inside x → At eq view (roll x)
  at_roll x a = rolled roll out (roll-out-BodyExtension S.Denot) eq view layer_eq layer_view opened shown x (record { same = λ y h. layer_same x y a h; equal = λ y h. layer_equal x y a h })

  mutual
    told : (e : ExtensionValue) (x : ExtensionLayer) → extension_seen f (roll x) ≡ e → At eq view (roll x)
    told e (extension_layer.Num n) h = at_roll (extension_layer.Num n) tt
    told e (extension_layer.Str s) h = at_roll (extension_layer.Str s) tt
    told (Listed es) (extension_layer.List v) h =
        let is : Listed (extensions_of (map (extension_seen f) v.items)) ≡ Listed es = sym (said (extension_layer.List v)) ∙ h in
        at_roll (extension_layer.List v) (told_all es v.items cc)
    told (Num n) (extension_layer.List v) h = let is : Listed (extensions_of (map (extension_seen f) v.items)) ≡ Num n = sym (said (extension_layer.List v)) ∙ h in absurd cc
    told (Str s) (extension_layer.List v) h = let is : Listed (extensions_of (map (extension_seen f) v.items)) ≡ Str s = sym (said (extension_layer.List v)) ∙ h in absurd cc

    told_all : (es : Extensions) (xs : List Extension) → extensions_of (map (extension_seen f) xs) ≡ es → AllByRecursion (At eq view) xs
    told_all es [] h = tt
    told_all (one_extension e es) (x ∷ xs) h = (subst (At eq view) (roll-out-BodyExtension S.Denot x) (told e (out x) (ap (extension_seen f) (roll-out-BodyExtension S.Denot x) ∙ cc)), told_all es xs cc)
    told_all no_extensions (x ∷ xs) h = absurd cc

  pub extension_tells : Tells eq view
  extension_tells = everywhere (λ x. subst (At eq view) (roll-out-BodyExtension S.Denot x) (told (extension_seen f (roll (out x))) (out x) refl))

  pub last_tells : Tells (option_eq eq) (λ x. lent_last (option_map (extension_seen f) x))
  last_tells = options_tell eq (extension_seen f) lent_extension extension_tells
