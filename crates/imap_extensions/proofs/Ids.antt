-- What a table of texts holds, as a finite map.
use Rattle.std.proofs.Common.{◌≡◌, List, [], ◌∷◌, refl, sym, ap, ap₂, ◌∙◌, subst, T, Option, Some, None, Bool, true, false, cond, map, nat_eq, Global}
use Rattle.std.specs.Prelude.{option_map, ◌&&◌}
use Rattle.std.specs.Ordering.{nat_cmp, eq_by_cmp, is_lt}
use Rattle.std.specs.Cow.{cow_str_bytes}
use Rattle.std.specs.Cmp.{on_equiv}
use Rattle.std.specs.Cmp.Lexicographic.{slice_cmp, pointwise, texts_ties, same_text, nat_list_cmp_total, nat_list_eq_equiv}
use Rattle.std.specs.declared.borrow.CowStr.{CowStr}
use Rattle.std.specs.declared.borrow.CowStr.TheVariants.{Borrowed, Owned}
use Rattle.std.specs.Map.{lookup}
use Rattle.std.specs.List.{IsDistinct, AllByRecursion}
use Rattle.std.specs.FinMap.{insert, empty, entries, get, find, from_sorted, is_sorted, entries_sorted, entries-from_sorted, get-from_sorted, get-empty, get-entries, get-from_entries, get-insert, same_map, slice_cmp-IsAntisymmetric, nat_cmp-IsAntisymmetric}
use Rattle.std.specs.FinMap.Entries.{below_all}
use Rattle.std.specs.HashMap as hash
use Rattle.std.specs.HashMap.Eq.{get_from_hash_map_eq, hash_map_eq_from_get}
use Rattle.std.proofs.lemmas.Simd.{map-map}
use Rattle.imap_grammar.specs.Text.{Bytes, Text, text_of, lent_text, owned_text}
use Rattle.imap_grammar.proofs.Seen.{Tells, option_tells, option_twice, texts_tell}
use Rattle.imap_extensions.specs.Ids.{IdValue, IdTable, entry_value, id_value, changed_entry, changed_id, lent_entry, lent_id, id_content}
use Rattle.imap_extensions.specs.Owned.{owned_entry, owned_id}

abbrev same_bytes : CowStr Global → CowStr Global → Bool
same_bytes x y = pointwise nat_eq (cow_str_bytes x) (cow_str_bytes y)

-- two maps that have the same at each key
pub alike : (m n : IdValue) → ((q : Bytes) → get m q ≡ get n q) → m ≡ n
alike m n h = same_map nat_list_cmp_total (slice_cmp-IsAntisymmetric nat_cmp-IsAntisymmetric) m n h

-- a key with these bytes
key_of : Bytes → CowStr Global
key_of bytes = Borrowed (record { ref_ptr = (0, 0); now = bytes })

find_is : (q : Bytes) (es : List (CowStr Global × CowStr Global)) → find (slice_cmp nat_cmp) q (map entry_value es) ≡ option_map text_of (lookup (λ x. pointwise nat_eq q (cow_str_bytes x)) es)
find_is q [] = refl
find_is q (e ∷ es) = ap (λ b. cond b (Some (text_of e.1)) (find (slice_cmp nat_cmp) q (map entry_value es))) (sym (texts_ties q (cow_str_bytes e.0)))
    ∙ elim (pointwise nat_eq q (cow_str_bytes e.0)) as (λ b. cond b (Some (text_of e.1)) (find (slice_cmp nat_cmp) q (map entry_value es)) ≡ option_map text_of (cond b (Some e.1) (lookup (λ x. pointwise nat_eq q (cow_str_bytes x)) es))) [
      | true ↦ refl
      | false ↦ find_is q es
    ]

-- what the value has at a text is what the table has at a key of that text
pub get-id_value : (m : IdTable) (q : CowStr Global) → get (id_value m) (cow_str_bytes q) ≡ option_map text_of (hash.get same_bytes m q)
get-id_value m q = get-from_entries nat_list_cmp_total (map entry_value m.entries) (cow_str_bytes q) ∙ find_is (cow_str_bytes q) m.entries

pub id_value-insert : (m n : IdTable) (k v : CowStr Global) → ((q : CowStr Global) → hash.get same_bytes n q ≡ cond (same_bytes k q) (Some v) (hash.get same_bytes m q))
    → id_value n ≡ insert (id_value m) (cow_str_bytes k) (text_of v)
unfolding key_of
id_value-insert m n k v updates = alike (id_value n) (insert (id_value m) (cow_str_bytes k) (text_of v))
    (λ q. get-id_value n (key_of q) ∙ ap (option_map text_of) (updates (key_of q)) ∙ seen q (pointwise nat_eq (cow_str_bytes k) q) ∙ ap (λ b. cond b (Some (text_of v)) (get (id_value m) q)) (nat_list_eq_equiv.symm (cow_str_bytes k) q ∙ texts_ties q (cow_str_bytes k)) ∙ sym (get-insert nat_list_cmp_total (id_value m) (cow_str_bytes k) (text_of v) q))
  where
    seen : (q : Bytes) (b : Bool) → option_map text_of (cond b (Some v) (hash.get same_bytes m (key_of q))) ≡ cond b (Some (text_of v)) (get (id_value m) q)
    seen q true = refl
    seen q false = sym (get-id_value m (key_of q))

-- ---- equality

-- a map whose texts are changed has the changed text at each key
find_changed : (f : Text → Text) (q : Bytes) (es : List (Bytes × Text)) → find (slice_cmp nat_cmp) q (map (changed_entry f) es) ≡ option_map f (find (slice_cmp nat_cmp) q es)
find_changed f q [] = refl
find_changed f q (e ∷ es) = elim (eq_by_cmp (slice_cmp nat_cmp) q e.0) as (λ b. cond b (Some (f e.1)) (find (slice_cmp nat_cmp) q (map (changed_entry f) es)) ≡ option_map f (cond b (Some e.1) (find (slice_cmp nat_cmp) q es))) [
  | true ↦ refl
  | false ↦ find_changed f q es
]

pub get-changed : (f : Text → Text) (m : IdValue) (q : Bytes) → get (changed_id f m) q ≡ option_map f (get m q)
get-changed f m q = get-from_entries nat_list_cmp_total (map (changed_entry f) (entries m)) q ∙ find_changed f q (entries m) ∙ ap (option_map f) (sym (get-entries m q))

pub get-lent_id : (m : IdValue) (q : Bytes) → get (lent_id m) q ≡ option_map lent_text (get m q)
get-lent_id m q = get-changed lent_text m q

-- ---- the entries of a map whose texts are borrowed

below_lent : (k : Bytes) (es : List (Bytes × Text)) → below_all (slice_cmp nat_cmp) k (map lent_entry es) ≡ below_all (slice_cmp nat_cmp) k es
below_lent k [] = refl
below_lent k (e ∷ es) = ap (λ b. is_lt (slice_cmp nat_cmp k e.0) && b) (below_lent k es)

sorted_lent : (es : List (Bytes × Text)) → is_sorted (slice_cmp nat_cmp) (map lent_entry es) ≡ is_sorted (slice_cmp nat_cmp) es
sorted_lent [] = refl
sorted_lent (e ∷ es) = ap₂ (λ a b. a && b) (below_lent e.0 es) (sorted_lent es)

-- they are the same, each with its text borrowed
pub entries-lent_id : (m : IdValue) → entries (lent_id m) ≡ map lent_entry (entries m)
entries-lent_id m =
    let es = map lent_entry (entries m) in
    let sorted : T (is_sorted (slice_cmp nat_cmp) es) = subst T (sym (sorted_lent (entries m))) (entries_sorted m) in
    let same : lent_id m ≡ from_sorted es = alike (lent_id m) (from_sorted es) (λ q. get-from_entries nat_list_cmp_total es q ∙ sym (get-from_sorted (slice_cmp nat_cmp) es q sorted)) in
    ap entries same ∙ entries-from_sorted (slice_cmp nat_cmp) es sorted

abbrev lent_of : CowStr Global → Text
lent_of x = lent_text (text_of x)

get-id_content : (m : IdTable) (q : CowStr Global) → get (id_content m) (cow_str_bytes q) ≡ option_map lent_of (hash.get same_bytes m q)
get-id_content m q = get-lent_id (id_value m) (cow_str_bytes q) ∙ ap (option_map lent_text) (get-id_value m q) ∙ sym (option_twice text_of lent_text (hash.get same_bytes m q))

-- `==` of two tables tells whether they hold the same map
pub tables_tell : Tells (hash.hash_map_eq {K = CowStr Global} {X = CowStr Global} same_bytes same_bytes) id_content
unfolding key_of
tables_tell = record {
  same = λ m n h. alike (id_content m) (id_content n)
      (λ q. get-id_content m (key_of q) ∙ (option_tells _ _ texts_tell).same _ _ (get_from_hash_map_eq _ _ (on_equiv cow_str_bytes nat_list_eq_equiv) m n h (key_of q)) ∙ sym (get-id_content n (key_of q)));
  equal = λ m n h. hash_map_eq_from_get _ _ m n (λ q. (option_tells _ _ texts_tell).equal _ _ (sym (get-id_content m q) ∙ ap (λ v. get v (cow_str_bytes q)) h ∙ get-id_content n q));
}

-- ---- owned maps: entries of distinct keys that are put in turn

abbrev pub put_entries : IdValue → List (Bytes × Text) → IdValue
put_entries m [] = m
put_entries m (e ∷ es) = put_entries (insert m e.0 e.1) es

-- an entry with its value owned
abbrev pub owned_of : CowStr Global × CowStr Global → Bytes × Text
owned_of e = owned_entry (entry_value e)

or_else : Option Text → Option Text → Option Text
or_else None d = d
or_else (Some v) d = Some v

abbrev Differs : Bytes → List (CowStr Global × CowStr Global) → Type 0
Differs k es = AllByRecursion (λ y. pointwise nat_eq k (cow_str_bytes y) ≡ false) (map (λ e. e.0) es)

none_of : (k : Bytes) (es : List (CowStr Global × CowStr Global)) → Differs k es → find (slice_cmp nat_cmp) k (map owned_of es) ≡ None
none_of k [] h = refl
none_of k (e ∷ es) h = ap (λ b. cond b (Some (owned_text (text_of e.1))) (find (slice_cmp nat_cmp) k (map owned_of es))) (sym (texts_ties k (cow_str_bytes e.0)) ∙ h.0) ∙ none_of k es h.1

module _ (q k : Bytes) (v : Text) (es : List (CowStr Global × CowStr Global)) (m : IdValue) where
  chosen : (b : Bool) → pointwise nat_eq q k ≡ b → Differs k es
      → or_else (find (slice_cmp nat_cmp) q (map owned_of es)) (cond b (Some v) (get m q)) ≡ or_else (cond b (Some v) (find (slice_cmp nat_cmp) q (map owned_of es))) (get m q)
  unfolding or_else
  chosen true is h = ap (λ f. or_else f (Some v)) (subst (λ z. find (slice_cmp nat_cmp) z (map owned_of es) ≡ None) (sym (same_text q k (sym is))) (none_of k es h))
  chosen false is h = refl

get-put_entries : (es : List (CowStr Global × CowStr Global)) (m : IdValue) (q : Bytes) → IsDistinct same_bytes (map (λ e. e.0) es)
    → get (put_entries m (map owned_of es)) q ≡ or_else (find (slice_cmp nat_cmp) q (map owned_of es)) (get m q)
unfolding or_else IsDistinct
get-put_entries [] m q h = refl
get-put_entries (e ∷ es) m q h =
    get-put_entries es (insert m (cow_str_bytes e.0) (owned_text (text_of e.1))) q h.1
    ∙ ap (or_else (find (slice_cmp nat_cmp) q (map owned_of es))) (get-insert nat_list_cmp_total m (cow_str_bytes e.0) (owned_text (text_of e.1)) q ∙ ap (λ b. cond b (Some (owned_text (text_of e.1))) (get m q)) (sym (texts_ties q (cow_str_bytes e.0))))
    ∙ chosen q (cow_str_bytes e.0) (owned_text (text_of e.1)) es m (pointwise nat_eq q (cow_str_bytes e.0)) refl h.0
    ∙ ap (λ b. or_else (cond b (Some (owned_text (text_of e.1))) (find (slice_cmp nat_cmp) q (map owned_of es))) (get m q)) (texts_ties q (cow_str_bytes e.0))

over_none : (o : Option Text) → or_else o None ≡ o
unfolding or_else
over_none None = refl
over_none (Some v) = refl

-- all entries of a table put in turn into no map are the owned map
pub put_owned_entries : (m : IdTable) → IsDistinct same_bytes (map (λ e. e.0) m.entries) → put_entries empty (map owned_of m.entries) ≡ owned_id (id_value m)
put_owned_entries m h = alike (put_entries empty (map owned_of m.entries)) (owned_id (id_value m))
    (λ q. get-put_entries m.entries empty q h ∙ ap (or_else (find (slice_cmp nat_cmp) q (map owned_of m.entries))) (get-empty (slice_cmp nat_cmp) q) ∙ over_none (find (slice_cmp nat_cmp) q (map owned_of m.entries))
    ∙ ap (find (slice_cmp nat_cmp) q) (sym (map-map owned_entry entry_value m.entries)) ∙ find_changed owned_text q (map entry_value m.entries)
    ∙ ap (option_map owned_text) (sym (get-from_entries nat_list_cmp_total (map entry_value m.entries) q)) ∙ sym (get-changed owned_text (id_value m) q))

pub bytes_said : (x : CowStr Global) → (text_of x).bytes ≡ cow_str_bytes x
bytes_said (Borrowed s) = refl
bytes_said (Owned s) = refl
