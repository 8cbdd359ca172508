-- Tokens that are written one behind another.
use Rattle.std.proofs.Common.{◌≡◌, ℕ, ◌+◌, ◌<◌, ◌≤◌, ◌++◌, ◌∷◌, [], List, length, take, get_or, refl, sym, ap, subst, ◌∙◌, append_assoc, append-nil, map}
use Rattle.std.proofs.lemmas.List.{map-append, map-id, map_more, take_all}
use Rattle.json.specs.Token.{Token, begin_array, end_array, begin_object, end_object}
use Rattle.json.specs.Tree.{json_tokens, items_tokens, members_tokens}
use Rattle.serde_json.specs.Data.{Data, array}
use Rattle.serde_json.specs.View.{items_of}
use Rattle.serde_json.specs.Written.{outline, items_outline, members_outline}
use Rattle.imap_grammar.specs.Text.{Bytes}
use Rattle.imap_json.specs.Forms.{Field, members_of, object_json, Appends, Tells, items_front, fields_front, field_tokens, list_json}
use Rattle.imap_json.specs.declared.output.Output.{Output}

module _ {a b c : Output} {x y : List Token} where
  pub joined : Appends a b x → Appends b c y → Appends a c (x ++ y)
  joined p q =
      record {
        tokens = q.tokens ∙ ap (λ ts. ts ++ y) p.tokens ∙ append_assoc a.writer.tokens x y;
        before = q.before ∙ p.before;
      }

pub items_ended : (ds : List Data) → items_front ds ++ end_array ∷ [] ≡ items_tokens (items_outline (items_of ds))
items_ended [] = refl
items_ended (d ∷ ds) = append_assoc (json_tokens (outline d)) (items_front ds) _ ∙ ap (λ l. json_tokens (outline d) ++ l) (items_ended ds)

pub items_front-append : (ds es : List Data) → items_front (ds ++ es) ≡ items_front ds ++ items_front es
items_front-append [] es = refl
items_front-append (d ∷ ds) es = ap (λ l. json_tokens (outline d) ++ l) (items_front-append ds es) ∙ sym (append_assoc (json_tokens (outline d)) (items_front ds) (items_front es))

pub fields_ended : (fs : List Field) → fields_front fs ++ end_object ∷ [] ≡ members_tokens (members_outline (members_of fs))
fields_ended [] = refl
fields_ended (f ∷ fs) = append_assoc (field_tokens f.0 f.1) (fields_front fs) _ ∙ ap (λ l. field_tokens f.0 f.1 ++ l) (fields_ended fs)

pub fields_front-append : (fs gs : List Field) → fields_front (fs ++ gs) ≡ fields_front fs ++ fields_front gs
fields_front-append [] gs = refl
fields_front-append (f ∷ fs) gs = ap (λ l. field_tokens f.0 f.1 ++ l) (fields_front-append fs gs) ∙ sym (append_assoc (field_tokens f.0 f.1) (fields_front fs) (fields_front gs))

-- ---- lists and objects

module _ {a b c d : Output} where
  pub array_told : (ds : List Data) → Appends a b (begin_array ∷ []) → Appends b c (items_front ds) → Appends c d (end_array ∷ []) → Tells a d (array (items_of ds))
  array_told ds p q r = subst (λ ts. Appends a d (begin_array ∷ ts)) (items_ended ds) (joined p (joined q r))

  pub object_told : (fs : List Field) → Appends a b (begin_object ∷ []) → Appends b c (fields_front fs) → Appends c d (end_object ∷ []) → Tells a d (object_json fs)
  object_told fs p q r = subst (λ ts. Appends a d (begin_object ∷ ts)) (fields_ended fs) (joined p (joined q r))

-- one item more
pub item_told : {A M : Type 0} (json : M → Data) (said : A → M) (xs : List A) (i : ℕ) (x : A) {a b c : Output} → i < length xs → x ≡ get_or xs i x
    → Appends a b (items_front (map json (map said (take i xs)))) → Tells b c (json (said x)) → Appends a c (items_front (map json (map said (take (i + 1) xs))))
item_told json said xs i x {a} {b} {c} less is before now =
    let front = items_front (map json (map said (take i xs))) in
    let more : items_front (map json (map said (take (i + 1) xs))) ≡ front ++ json_tokens (outline (json (said x))) =
    ap (λ l. items_front (map json l)) (map_more said xs i x less) ∙ ap items_front (map-append json (map said (take i xs)) (said (get_or xs i x) ∷ []))
    ∙ items_front-append (map json (map said (take i xs))) (json (said (get_or xs i x)) ∷ []) ∙ ap (λ ts. front ++ ts) (append-nil (json_tokens (outline (json (said (get_or xs i x))))))
    ∙ ap (λ y. front ++ json_tokens (outline (json (said y)))) (sym is) in
    subst (λ ts. Appends a c ts) (sym more) (joined before now)

-- all of them
pub items_told : {A M : Type 0} (json : M → Data) (said : A → M) (xs : List A) (i : ℕ) {a b : Output} → length xs ≤ i → Appends a b (items_front (map json (map said (take i xs)))) → Appends a b (items_front (map json (map said xs)))
items_told json said xs i {a} {b} all before = subst (λ ys. Appends a b (items_front (map json (map said ys)))) (take_all i xs all) before

-- a list of values that are seen as they are
pub plain_field : {A : Type 0} (json : A → Data) (name : Bytes) (xs : List A) {a b : Output} → Appends a b (field_tokens name (list_json json (map (λ x. x) xs))) → Appends a b (field_tokens name (list_json json xs))
plain_field json name xs {a} {b} told = subst (λ ys. Appends a b (field_tokens name (list_json json ys))) (map-id xs) told
