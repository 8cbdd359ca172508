-- An ID's fields, put in the order of their keys one by one, and written.
use Rattle.std.proofs.Common.{◌≡◌, List, [], ◌∷◌, ◌++◌, true, false, Ordering, Less, Equal, Greater, Global, map, nat_eq, refl, sym, ap, ◌∙◌, append_assoc}
use Rattle.std.specs.Borrow.{Bor}
use Rattle.std.specs.BTreeMap.{insert_entry}
use Rattle.std.specs.Cmp.Lexicographic.{slice_cmp, pointwise, nat_list_cmp_total}
use Rattle.std.specs.Cow.{cow_str_bytes}
use Rattle.std.specs.FinMap.{empty, insert, entries, entries-insert, len-empty, len-entries}
use Rattle.std.specs.FinMap.Entries.{put, by_order}
use Rattle.std.specs.List.{IsDistinct}
use Rattle.std.specs.Ordering.{nat_cmp, match_ordering}
use Rattle.std.specs.declared.borrow.CowStr.{CowStr}
use Rattle.std.proofs.lemmas.List.{nil_from_length}
use Rattle.std.proofs.lemmas.Simd.{map-map}
use Rattle.json.specs.Token.{Token}
use Rattle.imap_grammar.specs.Text.{Bytes, Text, text_of, owned_text}
use Rattle.imap_extensions.specs.Ids.{IdValue, IdTable, lent_entry, id_value}
use Rattle.imap_extensions.specs.Owned.{owned_entry, owned_id}
use Rattle.imap_extensions.proofs.Ids.{put_entries, owned_of, put_owned_entries, entries-lent_id}
use Rattle.imap_extensions.proofs.Marks.{id_map}
use Rattle.imap_json.specs.Forms.{Field, Appends, fields_front, field_tokens}
use Rattle.imap_json.specs.Ids.{entry_field, id_fields, shown_entry}
use Rattle.imap_json.specs.Texts.{text_json}
use Rattle.imap_json.specs.declared.output.Output.{Output}
use Rattle.imap_json.proofs.Writing.{joined}

abbrev Entry : Type 0
Entry = Bor Bytes × Bor (CowStr Global)

abbrev Left : Type 0
Left = List (CowStr Global × CowStr Global)

-- an entry with its value owned: whether it is, isn't told
abbrev owned_shown : Entry → Bytes × Text
owned_shown e = owned_entry (shown_entry e)

-- The entries so far are those of a map, which the fields that are left complete.
pub record Orders (fields : IdTable) (done : List Entry) (left : Left) : Type 0 where
  pub so_far : IdValue
  pub are : map owned_shown done ≡ entries so_far
  pub completes : put_entries so_far (map owned_of left) ≡ owned_id (id_value fields)

abbrev key_cmp : Bor Bytes → Bor Bytes → Ordering
key_cmp x y = slice_cmp nat_cmp x.now y.now

shown_by : (o : Ordering) (a b c : List Entry) → map owned_shown (match_ordering o a b c) ≡ by_order o (map owned_shown a) (map owned_shown b) (map owned_shown c)
shown_by Less a b c = refl
shown_by Equal a b c = refl
shown_by Greater a b c = refl

shown_insert : (es : List Entry) (k : Bor Bytes) (v : Bor (CowStr Global)) → map owned_shown (insert_entry key_cmp es k v) ≡ put (slice_cmp nat_cmp) k.now (owned_text (text_of v.now)) (map owned_shown es)
shown_insert [] k v = refl
shown_insert (e ∷ es) k v =
    shown_by (key_cmp k e.0) _ _ _
    ∙ ap (by_order (key_cmp k e.0) ((k.now, owned_text (text_of v.now)) ∷ map owned_shown (e ∷ es)) ((e.0.now, owned_text (text_of v.now)) ∷ map owned_shown es)) (ap (λ l. owned_shown e ∷ l) (shown_insert es k v))

no_entries : entries (empty {X = Text} {R = slice_cmp nat_cmp}) ≡ []
no_entries = nil_from_length _ (sym (len-entries empty) ∙ len-empty (slice_cmp nat_cmp) Text)

pub none_put : (fields : IdTable) (done : List Entry) (left : Left) → done ≡ [] → left ≡ fields.entries → IsDistinct (λ x y. pointwise nat_eq (cow_str_bytes x) (cow_str_bytes y)) (map (λ e. e.0) fields.entries) → Orders fields done left
none_put fields done left none all distinct =
    record {
      so_far = empty;
      are = ap (map owned_shown) none ∙ sym no_entries;
      completes = ap (λ es. put_entries empty (map owned_of es)) all ∙ put_owned_entries fields distinct;
    }

pub one_put : (fields : IdTable) (done new : List Entry) (left : Left) (k : Bor Bytes) (key value : CowStr Global) (v : Bor (CowStr Global)) → Orders fields done ((key, value) ∷ left)
    → k.now ≡ cow_str_bytes key → v.now ≡ value → new ≡ insert_entry key_cmp done k v → Orders fields new left
one_put fields done new left k key value v o same_key same_value put_there =
    record {
      so_far = insert o.so_far (cow_str_bytes key) (owned_text (text_of value));
      are = ap (map owned_shown) put_there ∙ shown_insert done k v
          ∙ (λ i. put (slice_cmp nat_cmp) (same_key i) (owned_text (text_of (same_value i))) (o.are i))
          ∙ sym (entries-insert nat_list_cmp_total o.so_far (cow_str_bytes key) (owned_text (text_of value)));
      completes = o.completes;
    }

pub all_put : (fields : IdTable) (done : List Entry) → Orders fields done [] → map (λ e. entry_field (shown_entry e)) done ≡ id_fields (id_value fields)
all_put fields done o =
    sym (map-map (λ e. entry_field (lent_entry e)) owned_shown done)
    ∙ ap (map (λ e. entry_field (lent_entry e))) (o.are ∙ ap entries o.completes)
    ∙ sym (map-map entry_field lent_entry (entries (owned_id (id_value fields))))
    ∙ ap (map entry_field) (sym (entries-lent_id (owned_id (id_value fields))) ∙ ap entries (id_map true false (id_value fields)) ∙ entries-lent_id (id_value fields))
    ∙ map-map entry_field lent_entry (entries (id_value fields))

-- ---- written

abbrev field_of : Entry → Field
field_of e = entry_field (shown_entry e)

-- those that are left complete what was written
pub record Written (start now : Output) (all left : List Entry) : Type 0 where
  pub tokens : List Token
  pub appended : Appends start now tokens
  pub completes : tokens ++ fields_front (map field_of left) ≡ fields_front (map field_of all)

pub one_written : (start a b : Output) (all left : List Entry) (e : Entry) → Written start a all (e ∷ left) → Appends a b (field_tokens e.0.now (text_json (text_of e.1.now))) → Written start b all left
one_written start a b all left e w p =
    record {
      tokens = w.tokens ++ field_tokens e.0.now (text_json (text_of e.1.now));
      appended = joined w.appended p;
      completes = append_assoc w.tokens (field_tokens e.0.now (text_json (text_of e.1.now))) (fields_front (map field_of left)) ∙ w.completes;
    }
