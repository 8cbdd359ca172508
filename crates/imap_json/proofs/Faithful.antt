-- The forms of JSON tell all that a value says, and nothing else.
use Rattle.std.proofs.Common.{◌≡◌, ℕ, zero, suc, Bool, true, false, List, [], ◌∷◌, Option, None, Some, map, nat_eq, refl, sym, ap, ◌∙◌}
use Rattle.std.specs.Option.{option_map}
use Rattle.std.specs.Cmp.Lexicographic.{pointwise}
use Rattle.std.proofs.lemmas.List.{map-id}
use Rattle.serde_json.specs.Data.{Data, null, boolean, number, string, array, object, Num, unsigned, Items, no_items, item, Members, no_members, member}
use Rattle.serde_json.specs.View.{items_of}
use Rattle.imap_grammar.specs.Text.{Bytes}
use Rattle.imap_grammar.proofs.Seen.{unequal, kinds_apart, text_tells}
use Rattle.imap_json.specs.Forms.{number_json, flag_json, string_json, option_json, list_json, pair_json}
use Rattle.imap_json.specs.Laws.{IsFaithful}

-- ---- parts of JSON

abbrev pub form_of : Data → ℕ
form_of null = 0
form_of (boolean b) = 1
form_of (number n) = 2
form_of (string s) = 3
form_of (array ds) = 4
form_of (object ms) = 5

-- values of different forms aren't one
pub forms_apart : (d e : Data) → nat_eq (form_of d) (form_of e) ≡ false → d ≡ e → ⊥
forms_apart d e = kinds_apart form_of d e

-- of a variant
abbrev pub name_in : Data → Bytes
name_in (string s) = s
name_in (object (member k d ms)) = k
name_in other = []

-- variants of different names aren't one
pub names_apart : (d e : Data) → pointwise nat_eq (name_in d) (name_in e) ≡ false → d ≡ e → ⊥
names_apart d e apart same = unequal (sym apart ∙ text_tells.equal (name_in d) (name_in e) (ap name_in same))

abbrev member_at : ℕ → Members → Data
member_at n no_members = null
member_at zero (member k d ms) = d
member_at (suc n) (member k d ms) = member_at n ms

abbrev pub part : ℕ → Data → Data
part n (object ms) = member_at n ms
part n other = null

-- of a variant with one field
abbrev pub inner : Data → Data
inner = part 0

abbrev pub members_in : Data → Members
members_in (object ms) = ms
members_in other = no_members

abbrev pub items_in : Data → Items
items_in (array ds) = ds
items_in other = no_items

abbrev pub first_item : Items → Data
first_item no_items = null
first_item (item d ds) = d

abbrev pub later_items : Items → Items
later_items no_items = no_items
later_items (item d ds) = ds

abbrev pub has_item : Items → Bool
has_item no_items = false
has_item (item d ds) = true

abbrev pub string_in : Data → Bytes
string_in (string s) = s
string_in other = []

abbrev flag_in : Data → Bool
flag_in (boolean b) = b
flag_in other = false

abbrev number_of : Num → ℕ
number_of (unsigned n) = n
number_of other = 0

abbrev number_in : Data → ℕ
number_in (number n) = number_of n
number_in other = 0

abbrev pub is_null : Data → Bool
is_null null = true
is_null other = false

-- it is never null
abbrev pub IsSolid : {A : Type 0} → (A → Data) → Type 0
IsSolid {A} json = (a : A) → is_null (json a) ≡ false

-- ---- forms

pub numbers : IsFaithful number_json (λ n. n)
numbers = record { apart = λ a b h. ap number_in h; alike = λ a. refl }

pub flags : IsFaithful flag_json (λ b. b)
flags = record { apart = λ a b h. ap flag_in h; alike = λ a. refl }

pub strings : IsFaithful string_json (λ s. s)
strings = record { apart = λ a b h. ap string_in h; alike = λ a. refl }

module _ {A : Type 0} {json : A → Data} {lent : A → A} (f : IsFaithful json lent) where
  items_apart : (xs ys : List A) → items_of (map json xs) ≡ items_of (map json ys) → map lent xs ≡ map lent ys
  items_apart [] [] h = refl
  items_apart [] (y ∷ ys) h = absurd (unequal (ap has_item h))
  items_apart (x ∷ xs) [] h = absurd (unequal (sym (ap has_item h)))
  items_apart (x ∷ xs) (y ∷ ys) h = let p = f.apart x y (ap first_item h) in let q = items_apart xs ys (ap later_items h) in λ i. p i ∷ q i

  items_alike : (xs : List A) → items_of (map json (map lent xs)) ≡ items_of (map json xs)
  items_alike [] = refl
  items_alike (x ∷ xs) = let p = f.alike x in let q = items_alike xs in λ i. item (p i) (q i)

  pub lists : IsFaithful (list_json json) (map lent)
  lists = record { apart = λ xs ys h. items_apart xs ys (ap items_in h); alike = λ xs. ap array (items_alike xs) }

  module _ (solid : IsSolid json) where
    option_apart : (a b : Option A) → option_json json a ≡ option_json json b → option_map lent a ≡ option_map lent b
    option_apart None None h = refl
    option_apart None (Some y) h = absurd (unequal (sym (solid y) ∙ ap is_null (sym h)))
    option_apart (Some x) None h = absurd (unequal (sym (solid x) ∙ ap is_null h))
    option_apart (Some x) (Some y) h = ap Some (f.apart x y h)

    option_alike : (a : Option A) → option_json json (option_map lent a) ≡ option_json json a
    option_alike None = refl
    option_alike (Some x) = f.alike x

    pub options : IsFaithful (option_json json) (option_map lent)
    options = record { apart = option_apart; alike = option_alike }

pub same_option : {A : Type 0} (o : Option A) → option_map (λ x. x) o ≡ o
same_option None = refl
same_option (Some x) = refl

-- of values that hold no texts
module _ {A : Type 0} {json : A → Data} (f : IsFaithful json (λ x. x)) where
  pub plain_lists : IsFaithful (list_json json) (λ xs. xs)
  plain_lists = record { apart = λ xs ys h. sym (map-id xs) ∙ (lists f).apart xs ys h ∙ map-id ys; alike = λ xs. refl }

  pub plain_options : IsSolid json → IsFaithful (option_json json) (λ o. o)
  plain_options solid = record { apart = λ a b h. sym (same_option a) ∙ (options f solid).apart a b h ∙ same_option b; alike = λ a. refl }

pub pairs : {A B : Type 0} {f : A → Data} {g : B → Data} {l : A → A} {m : B → B} → IsFaithful f l → IsFaithful g m → IsFaithful (pair_json f g) (λ p. (l p.0, m p.1))
pairs {f = f} {g = g} a b = record {
  apart = λ p q h. let x = a.apart p.0 q.0 (ap (λ d. first_item (items_in d)) h) in let y = b.apart p.1 q.1 (ap (λ d. first_item (later_items (items_in d))) h) in λ i. (x i, y i);
  alike = λ p. let x = a.alike p.0 in let y = b.alike p.1 in λ i. array (item (x i) (item (y i) no_items));
}
