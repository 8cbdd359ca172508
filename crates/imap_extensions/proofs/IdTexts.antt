-- What an implementation says of itself reads back.
use Rattle.std.proofs.Common.{◌≡◌, ◌<◌, ◌^◌, Bool, true, false, T, ◌&&◌, List, [], ◌∷◌, ◌++◌, length, Option, None, Some, refl, sym, ap, subst, ◌∙◌, inl, inr, map, cond, append-nil, append_assoc, codes, arith, IsUtf8, option_map, nat_cmp, Ordering, Less, Equal, Greater}
use Rattle.std.proofs.lemmas.List.Elements.{All-head, All-tail}
use Rattle.std.specs.List.{All}
use Rattle.std.specs.Option.{option_or}
use Rattle.std.specs.Ordering.{is_lt, is_eq, eq_by_cmp}
use Rattle.std.specs.Cmp.Lexicographic.{slice_cmp, nat_list_cmp_total}
use Rattle.std.specs.FinMap.{empty, insert, entries, get, find, put, from_entries, get-empty, get-from_entries, get-insert, entries-insert, entries_sorted, is_sorted, len-entries, len-empty, same_map, slice_cmp-IsAntisymmetric, nat_cmp-IsAntisymmetric}
use Rattle.std.specs.FinMap.Entries.{below_all, by_order}
use Rattle.imap_grammar.specs.Classes.{is_blank}
use Rattle.imap_grammar.specs.Meaning.{Cuts, outside}
use Rattle.imap_grammar.specs.Rule.{meaning, nothing, ◌⨾◌, ◌▹◌, ◌◃◌}
use Rattle.imap_grammar.specs.Text.{Bytes, Text, as_text, lent_text}
use Rattle.imap_grammar.specs.Tags.{same_letter, tag, blanks0, blanks1}
use Rattle.imap_grammar.specs.Pieces.{Pieces, written, Fits, words, space, each, literal_of, ◌then◌}
use Rattle.imap_grammar.specs.ReadBack.{ReadsBack, Spells, SpellsAndReadsBack, Any, BeginsWith, Closes}
use Rattle.imap_grammar.specs.Spelling.{exactly, ◌and◌, blanks, some_blanks, some_with_between}
use Rattle.imap_grammar.proofs.Yields.{Yields, both_yield, either_yields, named_yields, given_yields, right_yields, left_yields, list_yields}
use Rattle.imap_grammar.proofs.Reading.{first, written_on, fits-parts, reads-names, reads-after, reads-follow, takes-tag, apart-names, denies-gives, denies-after, denies-tag, denies-run1, after-on, before-on, ◌▹ʳ◌}
use Rattle.imap_grammar.proofs.ReadingLists.{takes-word, takes-blanks}
use Rattle.imap_grammar.proofs.Spelling.{◌⨾ˢ◌, ◌▹ˢ◌, ◌◃ˢ◌, ◌orˢ◌, spells-gives, spells-wider, spells-names, spells-word, spells-tag, spells-list1, spells-blanks0, spells-blanks1}
use Rattle.imap_bytes.specs.Strings.{nil}
use Rattle.imap_bytes.specs.Texts.{string_utf8, nstring_utf8}
use Rattle.imap_bytes.proofs.ReadingTexts.{string_on, decoded_utf8, utf8_yields}
use Rattle.imap_bytes.proofs.SpellingTexts.{spells-string_utf8, spells-nstring_utf8}
use Rattle.imap_extensions.specs.Ids.{IdValue, put_pairs, map_of_pairs, lent_entry, lent_id, params_of, some_params, id_pair, id_pairs, id_list, id_params, id}
use Rattle.imap_extensions.specs.IdTexts.{canonical_field, canonical_fields, canonical_params, canonical_id, spells_pair, spells_params, spells_id}

abbrev Fields : Type 0
Fields = List (Bytes × Text)

abbrev Pair : Type 0
Pair = Text × Option Text

-- ---- the map of the canonical text is the map, borrowed

abbrev lent_pair : Bytes × Text → Pair
lent_pair e = (as_text e.0, Some (lent_text e.1))

-- the pairs of the canonical text
abbrev pairs_of : Fields → List Pair
pairs_of [] = (as_text [], None) ∷ []
pairs_of (e ∷ es) = lent_pair e ∷ map lent_pair es

both_of : (a b : Bool) → T (a && b) → T a × T b
both_of true b h = (tt, h)
both_of false b h = absurd h

is_less : (o : Ordering) → T (is_lt o) → o ≡ Less
is_less Less h = refl
is_less Equal h = absurd h
is_less Greater h = absurd h

is_equal : (o : Ordering) → is_eq o ≡ true → o ≡ Equal
is_equal Less h = absurd (subst T (sym h) tt)
is_equal Equal h = refl
is_equal Greater h = absurd (subst T (sym h) tt)

-- a key below all others is not among them
not_found : (q : Bytes) (es : Fields) → T (below_all (slice_cmp nat_cmp) q es) → find (slice_cmp nat_cmp) q (map lent_entry es) ≡ None
not_found q [] h = refl
not_found q (e ∷ es) h =
    let parts = both_of (is_lt (slice_cmp nat_cmp q e.0)) (below_all (slice_cmp nat_cmp) q es) h in
    ap (λ r. cond (is_eq r) (Some (lent_text e.1)) (find (slice_cmp nat_cmp) q (map lent_entry es))) (is_less _ parts.0) ∙ not_found q es parts.1

-- of rising keys, each entry is found where it was put
get_put : (m : IdValue) (es : Fields) → T (is_sorted (slice_cmp nat_cmp) es) → (q : Bytes) → get (put_pairs m (map lent_pair es)) q ≡ option_or (find (slice_cmp nat_cmp) q (map lent_entry es)) (get m q)
get_put m [] h q = refl
get_put m (e ∷ es) h q =
    let parts = both_of (below_all (slice_cmp nat_cmp) e.0 es) (is_sorted (slice_cmp nat_cmp) es) h in
    get_put (insert m e.0 (lent_text e.1)) es parts.1 q ∙ ap (option_or others) (get-insert nat_list_cmp_total m e.0 (lent_text e.1) q) ∙ chosen (eq_by_cmp (slice_cmp nat_cmp) q e.0) refl parts.0
  where
    others : Option Text
    others = find (slice_cmp nat_cmp) q (map lent_entry es)

    chosen : (b : Bool) → eq_by_cmp (slice_cmp nat_cmp) q e.0 ≡ b → T (below_all (slice_cmp nat_cmp) e.0 es) → option_or others (cond b (Some (lent_text e.1)) (get m q)) ≡ option_or (cond b (Some (lent_text e.1)) others) (get m q)
    chosen false is below = refl
    chosen true is below =
        let same : q ≡ e.0 = slice_cmp-IsAntisymmetric nat_cmp-IsAntisymmetric q e.0 (is_equal _ is) in
        ap (λ o. option_or o (Some (lent_text e.1))) (ap (λ k. find (slice_cmp nat_cmp) k (map lent_entry es)) same ∙ not_found e.0 es below)

or_none : (o : Option Text) → option_or o None ≡ o
or_none None = refl
or_none (Some x) = refl

map_lent : (es : Fields) → T (is_sorted (slice_cmp nat_cmp) es) → map_of_pairs (pairs_of es) ≡ from_entries (map lent_entry es)
map_lent [] h = refl
map_lent (e ∷ es) h = same_map nat_list_cmp_total (slice_cmp-IsAntisymmetric nat_cmp-IsAntisymmetric) _ _
    (λ q. get_put empty (e ∷ es) h q ∙ ap (option_or (find (slice_cmp nat_cmp) q (map lent_entry (e ∷ es)))) (get-empty (slice_cmp nat_cmp) q)
    ∙ or_none (find (slice_cmp nat_cmp) q (map lent_entry (e ∷ es))) ∙ sym (get-from_entries nat_list_cmp_total (map lent_entry (e ∷ es)) q))

-- ---- the map's texts are UTF-8

abbrev Utf8Value : Option Text → Type 0
Utf8Value None = Unit {0}
Utf8Value (Some v) = IsUtf8 v.bytes

abbrev Utf8Pair : Pair → Type 0
Utf8Pair p = IsUtf8 p.0.bytes × Utf8Value p.1

abbrev Utf8Fields : Fields → Type 0
Utf8Fields [] = Unit {0}
Utf8Fields (e ∷ es) = IsUtf8 e.0 × IsUtf8 e.1.bytes × Utf8Fields es

strings_yield : Yields (λ (t : Text). IsUtf8 t.bytes) string_utf8
unfolding string_utf8
strings_yield = utf8_yields

nstrings_yield : Yields Utf8Value nstring_utf8
unfolding nstring_utf8
nstrings_yield = either_yields (named_yields tt) (given_yields Some strings_yield (λ x h. h))

pairs_yield : Yields (All Utf8Pair) id_list
unfolding id_list id_pairs id_pair
pairs_yield = right_yields (left_yields (list_yields Utf8Pair (both_yield strings_yield (right_yields nstrings_yield))))

utf8_put : (k : Bytes) (v : Text) → IsUtf8 k → IsUtf8 v.bytes → (es : Fields) → Utf8Fields es → Utf8Fields (put (slice_cmp nat_cmp) k v es)
utf8_put k v key value [] h = (key, value, tt)
utf8_put k v key value (e ∷ es) h = elim (slice_cmp nat_cmp k e.0) as (λ r. Utf8Fields (by_order r ((k, v) ∷ e ∷ es) ((e.0, v) ∷ es) (e ∷ put (slice_cmp nat_cmp) k v es))) [
  | Less ↦ (key, value, h)
  | Equal ↦ (h.0, value, h.2)
  | Greater ↦ (h.0, h.1, utf8_put k v key value es h.2)
]

utf8_pairs : (ps : List Pair) → All Utf8Pair ps → (m : IdValue) → Utf8Fields (entries m) → Utf8Fields (entries (put_pairs m ps))
utf8_pairs [] h m g = g
utf8_pairs ((k, None) ∷ ps) h m g = utf8_pairs ps (All-tail Utf8Pair (k, None) ps h) m g
utf8_pairs ((k, Some v) ∷ ps) h m g =
    let pair = All-head Utf8Pair (k, Some v) ps h in
    utf8_pairs ps (All-tail Utf8Pair (k, Some v) ps h) (insert m k.bytes v) (subst Utf8Fields (sym (entries-insert nat_list_cmp_total m k.bytes v)) (utf8_put k.bytes v pair.0 pair.1 (entries m) g))

utf8_none : (es : Fields) → length es ≡ 0 → Utf8Fields es
utf8_none [] h = tt
utf8_none (e ∷ es) h = absurd (omega (arith, h))

utf8_map : (ps : List Pair) → All Utf8Pair ps → Utf8Fields (entries (map_of_pairs ps))
utf8_map ps h = utf8_pairs ps h empty (utf8_none (entries empty) (sym (len-entries empty) ∙ len-empty (slice_cmp nat_cmp) Text))

-- ---- what the rules yield on literals

text_on : (b t : Bytes) → IsUtf8 b → length b < 2 ^ 32 → (meaning string_utf8).yields (literal_of b ++ t) (as_text b) t
unfolding meaning string_utf8
text_on b t u short = (b, string_on b t short, decoded_utf8 b u)

value_on : (b t : Bytes) → IsUtf8 b → length b < 2 ^ 32 → (meaning nstring_utf8).yields (literal_of b ++ t) (Some (as_text b)) t
unfolding meaning nstring_utf8 nil
value_on b t u short = inr (denies-after nil (nothing {A = Option Text} None) (literal_of b ++ t) (denies-tag same_letter (codes "NIL") (literal_of b ++ t) refl), (as_text b, text_on b t u short, refl))

nil_on : (t : Bytes) → (meaning nstring_utf8).yields (78 ∷ 73 ∷ 76 ∷ t) None t
unfolding meaning nstring_utf8 nil
nil_on t = inl (after-on nil (nothing None) (78 ∷ 73 ∷ 76 ∷ t) (78 ∷ 73 ∷ 76 ∷ []) t None t (refl, refl) (refl, refl))

pair_on : (k : Bytes) (v : Option Text) (m t : Bytes) → IsUtf8 k → length k < 2 ^ 32 → BeginsWith (outside is_blank) m → (meaning nstring_utf8).yields m v t
    → (meaning id_pair).yields (literal_of k ++ (32 ∷ m)) (as_text k, v) t
unfolding meaning id_pair
pair_on k v m t u short begin y = (32 ∷ m, text_on k (32 ∷ m) u short, after-on blanks1 nstring_utf8 (32 ∷ m) (32 ∷ []) m v t ((refl, refl, begin), omega arith) y)

field_on : (e : Bytes × Text) (t : Bytes) → IsUtf8 e.0 → IsUtf8 e.1.bytes → Fits (canonical_field e) → (meaning id_pair).yields (written (canonical_field e) ++ t) (lent_pair e) t
field_on e t k v f =
    let value = literal_of e.1.bytes in
    subst (λ l. (meaning id_pair).yields l (lent_pair e) t) (sym (append_assoc (literal_of e.0) (32 ∷ (value ++ [])) t ∙ ap (λ l. literal_of e.0 ++ (32 ∷ (l ++ t))) (append-nil value)))
    (pair_on e.0 (Some (lent_text e.1)) (value ++ t) t k f.0 refl (value_on e.1.bytes t v f.1.0))

-- each behind a space
abbrev more : Fields → Pieces
more es = each (λ e. space then canonical_field e) es

more_on : (es : Fields) → Utf8Fields es → Fits (more es) → (t : Bytes) → Cuts (meaning (blanks1 ▹ id_pair)) (written (more es) ++ t) (map lent_pair es) t
unfolding meaning
more_on [] u f t = refl
more_on (e ∷ es) u f t =
    let parts = fits-parts (canonical_field e) (more es) f in
    let rest = written (more es) ++ t in
    let inner = written (canonical_field e) ++ rest in (
      rest,
      subst (λ l. (meaning (blanks1 ▹ id_pair)).yields (32 ∷ l) (lent_pair e) rest) (sym (written_on (canonical_field e) (more es) t))
          (after-on blanks1 id_pair (32 ∷ inner) (32 ∷ []) inner (lent_pair e) rest ((refl, refl, refl), omega arith) (field_on e rest u.0 u.1 parts.0)),
      more_on es u.2 parts.1 t,
    )

pairs_on : (p : Pair) (ps : List Pair) (m mid t : Bytes) → (meaning id_pair).yields m p mid → Cuts (meaning (blanks1 ▹ id_pair)) mid ps (41 ∷ t) → (meaning id_pairs).yields m (p ∷ ps) (41 ∷ t)
unfolding meaning id_pairs
pairs_on p ps m mid t y z = ((p, ps), (mid, y, (z, denies-after blanks1 id_pair (41 ∷ t) (denies-run1 is_blank (41 ∷ t) refl))), refl)

list_on : (ps : List Pair) (m t : Bytes) → (meaning id_pairs).yields m ps (41 ∷ t) → (meaning id_list).yields (40 ∷ m) ps t
unfolding meaning id_list
list_on ps m t y =
    after-on (tag "(") (id_pairs ◃ blanks0 ⨾ tag ")") (40 ∷ m) (40 ∷ []) m ps t (refl, refl)
    (before-on id_pairs (blanks0 ⨾ tag ")") m ps (41 ∷ t) ([], 41 ∷ []) t y (41 ∷ t, (refl, refl, refl), (refl, refl)))

none_utf8 : IsUtf8 []
none_utf8 = ([], (refl, refl))

fields_on : (es : Fields) → Utf8Fields es → Fits (canonical_fields es) → (t : Bytes) → (meaning id_list).yields (written (canonical_fields es) ++ t) (pairs_of es) t
unfolding meaning
fields_on [] u f t =
    list_on (pairs_of []) _ t
    (subst (λ l. (meaning id_pairs).yields l (pairs_of []) (41 ∷ t)) (sym (append_assoc (literal_of []) (codes " NIL)") t))
    (pairs_on (as_text [], None) [] _ (41 ∷ t) t
    (pair_on [] None (78 ∷ 73 ∷ 76 ∷ 41 ∷ t) (41 ∷ t) none_utf8 (omega arith) refl (nil_on (41 ∷ t)))
    refl))
fields_on (e ∷ es) u f t =
    let close = words ")" in
    let all = canonical_field e then more es in
    let outer = fits-parts all close f in
    let parts = fits-parts (canonical_field e) (more es) outer.0 in
    let rest = written (more es) ++ (41 ∷ t) in
    let same = written_on all close t ∙ written_on (canonical_field e) (more es) (41 ∷ t) in
    list_on (pairs_of (e ∷ es)) _ t
    (subst (λ l. (meaning id_pairs).yields l (pairs_of (e ∷ es)) (41 ∷ t)) (sym same)
    (pairs_on (lent_pair e) (map lent_pair es) _ rest t (field_on e rest u.0 u.1 parts.0) (more_on es u.2 parts.1 (41 ∷ t))))

-- ---- reading back

reads_some : ReadsBack some_params (option_map lent_id) canonical_params Any
unfolding meaning
reads_some = record {
  again = λ m v rest y f t g.
      let fields = entries (map_of_pairs y.0) in
      let fits : Fits (canonical_fields fields) = subst (λ w. Fits (canonical_params w)) (sym y.2) f in
      let listed = fields_on fields (utf8_map y.0 (pairs_yield.each m y.0 rest y.1)) fits t in (
        pairs_of fields,
        subst (λ w. (meaning id_list).yields (written (canonical_params w) ++ t) (pairs_of fields) t) y.2 listed,
        ap Some (map_lent fields (entries_sorted (map_of_pairs y.0))) ∙ ap (option_map lent_id) y.2,
      );
}

reads_params : ReadsBack id_params (option_map lent_id) canonical_params Any
unfolding id_params id_list nil
reads_params = first reads_some (apart-names _ None (λ t g. denies-gives _ _ _ (denies-after _ _ _ (denies-tag _ _ _ refl)))) (reads-names None (takes-tag _ _ (codes "NIL") refl) refl refl)

fields_no_blank : (es : Fields) (t : Bytes) → BeginsWith (outside is_blank) (written (canonical_fields es) ++ t)
fields_no_blank [] t = refl
fields_no_blank (e ∷ es) t = refl

params_no_blank : (v : Option IdValue) (t : Bytes) → BeginsWith (outside is_blank) (written (canonical_params v) ++ t)
params_no_blank None t = refl
params_no_blank (Some m) t = fields_no_blank (entries m) t

reads_id : ReadsBack id (option_map lent_id) canonical_id Any
unfolding id
reads_id = takes-word "ID" "ID" refl ▹ʳ reads-after takes-blanks reads_params (λ y t g. params_no_blank y t)

-- ---- spelling

pair_spells : Spells id_pair spells_pair
unfolding id_pair
pair_spells = spells-string_utf8 ⨾ˢ spells-blanks1 ▹ˢ spells-nstring_utf8

list_spells : Spells id_list (λ ps. exactly "(" and some_with_between some_blanks spells_pair ps and blanks and exactly ")")
unfolding id_list id_pairs
list_spells = spells-tag "(" ▹ˢ spells-list1 spells-blanks1 pair_spells ◃ˢ (spells-blanks0 ⨾ˢ spells-tag ")")

params_spell : Spells id_params spells_params
unfolding id_params nil
params_spell = spells-gives params_of (spells-wider list_spells (λ ps c h. (ps, refl, h))) orˢ spells-names None (spells-word "NIL")

id_spells : Spells id spells_id
unfolding id
id_spells = spells-word "ID" ▹ˢ spells-blanks1 ▹ˢ params_spell

pub keeps_id : SpellsAndReadsBack id (option_map lent_id) canonical_id spells_id Closes
keeps_id = record { spelled = id_spells; back = reads-follow reads_id (λ t g. tt) }
