-- Why a text spells no such fields of an ID: of the pairs that it spells, it tells the last one.
use Rattle.std.proofs.Common.{◌≡◌, ◌&&◌, ◌||◌, Bool, true, false, List, [], ◌∷◌, ◌++◌, Option, None, Some, sym, subst, refl, codes, ap, ◌∙◌, append_assoc, cond}
use Rattle.std.specs.List.{list_all}
use Rattle.std.specs.Ordering.{nat_cmp, eq_by_cmp}
use Rattle.std.specs.Cmp.Lexicographic.{slice_cmp, texts_ties, nat_list_cmp_total}
use Rattle.std.specs.FinMap.{get, insert, empty, get-empty, get-insert}
use Rattle.std.proofs.lemmas.Bool.{and_from, or_left}
use Rattle.imap_grammar.specs.Classes.{is_blank}
use Rattle.imap_grammar.specs.Meaning.{is_word}
use Rattle.imap_grammar.specs.Tags.{same_letter}
use Rattle.imap_grammar.specs.Text.{Bytes, Text}
use Rattle.imap_grammar.specs.ReadBack.{Texts}
use Rattle.imap_grammar.specs.Spelling.{some_blanks, some_with_between, spells_ntext}
use Rattle.imap_extensions.specs.Ids.{IdValue, put_pair, put_pairs, map_of_pairs}
use Rattle.imap_extensions.specs.IdTexts.{spells_pair, spells_params}
use Rattle.imap_grammar.proofs.NoSpelling.{Passes, any_cut, cut_at, or_right, same_as, same_self, passes-this, told_string, tells-string, tells-lossy, may_decode}

-- ---- the last of a list

-- the text ends in one of the last
record Last {A : Type 0} (P : A → Texts) (xs : List A) (c : Bytes) : Type 0 where
  pub front : Bytes
  pub back : Bytes
  pub cut : c ≡ front ++ back
  pub before : List A
  pub last : A
  pub is : xs ≡ before ++ last ∷ []
  pub spelled : P last back

append_none : (a : Bytes) → a ++ [] ≡ a
append_none [] = refl
append_none (x ∷ a) = ap (λ z. x ∷ z) (append_none a)

last_of : {A : Type 0} (S : Texts) (P : A → Texts) (xs : List A) (c : Bytes) → some_with_between S P xs c → Last P xs c
last_of S P [] c h = absurd h
last_of S P (x ∷ []) c (a, b, e, p, none) = record {
  front = [];
  back = a;
  cut = e ∙ ap (λ z. a ++ z) none ∙ append_none a;
  before = [];
  last = x;
  is = refl;
  spelled = p;
}
last_of S P (x ∷ y ∷ ys) c (a, b, e, p, (f, g, e2, (s, t, e3, h, q), rest)) =
    let more = last_of S P (y ∷ ys) (t ++ g) (t, g, refl, q, rest) in
    record {
      front = (a ++ s) ++ more.front;
      back = more.back;
      cut =
          e ∙ ap (λ z. a ++ z) (e2 ∙ ap (λ z. z ++ g) e3 ∙ append_assoc s t g ∙ ap (λ z. s ++ z) more.cut)
          ∙ sym (append_assoc a s (more.front ++ more.back)) ∙ sym (append_assoc (a ++ s) more.front more.back);
      before = x ∷ more.before;
      last = more.last;
      is = ap (λ z. x ∷ z) more.is;
      spelled = more.spelled;
    }

-- ---- the last pair

put_last : (m : IdValue) (ps : List (Text × Option Text)) (p : Text × Option Text) → put_pairs m (ps ++ p ∷ []) ≡ put_pair (put_pairs m ps) p
put_last m [] p = refl
put_last m (q ∷ ps) p = put_last (put_pair m q) ps p

own_key : (k : Bytes) → eq_by_cmp (slice_cmp nat_cmp) k k ≡ true
own_key k = sym (texts_ties k k) ∙ same_self k

get_last : (ps before : List (Text × Option Text)) (key value : Text) → ps ≡ before ++ (key, Some value) ∷ [] → get (map_of_pairs ps) key.bytes ≡ Some value
get_last ps before key value e =
    ap (λ z. get (map_of_pairs z) key.bytes) e ∙ ap (λ z. get z key.bytes) (put_last _ before (key, Some value))
    ∙ get-insert nat_list_cmp_total (map_of_pairs before) key.bytes value key.bytes
    ∙ ap (λ b. cond b (Some value) (get (map_of_pairs before) key.bytes)) (own_key key.bytes)

-- the fields have that value for that key
abbrev pub has_value : Option Text → Bytes → Bool
has_value None value = false
has_value (Some t) value = same_as t.bytes value

abbrev pub is_pair_of : (Bytes → Option Text) → Bytes → Bool
is_pair_of f =
    any_cut (λ k r. any_cut (λ s v. list_all is_blank s
    && (is_word same_letter (codes "NIL") v
    || told_string (may_decode (λ key. told_string (may_decode (λ value. has_value (f key) value)) v)) k)) r)

value_holds : (f : Bytes → Option Text) (key value : Text) → f key.bytes ≡ Some value → (v : Bytes) → spells_ntext (Some value) v
    → told_string (may_decode (λ b. has_value (f key.bytes) b)) v ≡ true
value_holds f key value is v h = tells-lossy tells-string (λ b. has_value (f key.bytes) b) value v h (subst (λ z. has_value z value.bytes ≡ true) (sym is) (same_self value.bytes))

pair_holds : (f : Bytes → Option Text) (key : Text) (value : Option Text) → ((t : Text) → value ≡ Some t → f key.bytes ≡ Some t) → (c : Bytes) → spells_pair (key, value) c → is_pair_of f c ≡ true
pair_holds f key None has c (k, r, e, hk, (s, v, e2, hs, hv)) = cut_at _ c k r e (cut_at _ r s v e2 (and_from _ _ hs.0 (or_left _ _ hv)))
pair_holds f key (Some value) has c (k, r, e, hk, (s, v, e2, hs, hv)) =
    cut_at _ c k r e (cut_at _ r s v e2 (and_from _ _ hs.0 (or_right _ _
    (tells-lossy tells-string (λ b. told_string (may_decode (λ w. has_value (f b) w)) v) key k hk (value_holds f key value (has value refl) v hv)))))

-- what ends a list of pairs
abbrev closes : Bytes → Bool
closes = any_cut (λ s e. list_all is_blank s && same_as (codes ")") e)

-- the last pair is one of the fields, or tells nothing
abbrev pub may_have : (Bytes → Option Text) → Bytes → Bool
may_have f = any_cut (λ front r. any_cut (λ p e. is_pair_of f p && closes e) r)

last_holds : (f : Bytes → Option Text) (ps : List (Text × Option Text)) (c a l r : Bytes) → ((q : Bytes) → get (map_of_pairs ps) q ≡ f q) → c ≡ a ++ (l ++ r) → Last spells_pair ps l → closes r ≡ true → may_have f c ≡ true
last_holds f ps c a l r is e end closed =
    let pair = pair_holds f end.last.0 end.last.1 (λ t some. sym (is end.last.0.bytes) ∙ get_last ps end.before end.last.0 t (end.is ∙ ap (λ z. end.before ++ (end.last.0, z) ∷ []) some)) end.back end.spelled in
    cut_at _ c (a ++ end.front) (end.back ++ r) (e ∙ ap (λ z. a ++ (z ++ r)) end.cut ∙ ap (λ z. a ++ z) (append_assoc end.front end.back r) ∙ sym (append_assoc a end.front (end.back ++ r)))
    (cut_at _ (end.back ++ r) end.back r refl (and_from _ _ pair closed))

-- f tells what the fields have for each key
pub passes-params : (m : IdValue) (f : Bytes → Option Text) → ((q : Bytes) → get m q ≡ f q) → Passes (spells_params (Some m)) (may_have f)
passes-params m f tells = record {
  passes = λ c x.
      let y = x.2 in
      last_holds f x.0 c y.0 y.4.0 y.4.1 (λ q. ap (λ z. get z q) x.1 ∙ tells q) (y.2 ∙ ap (λ z. y.0 ++ z) y.4.2) (last_of some_blanks spells_pair x.0 y.4.0 y.4.3)
      (cut_at _ y.4.1 y.4.4.0 y.4.4.1 y.4.4.2 (and_from _ _ y.4.4.3 ((passes-this (codes ")")).passes y.4.4.1 y.4.4.4)));
}

-- one field
abbrev pub one_field : Bytes → Text → Bytes → Option Text
one_field key value q = cond (eq_by_cmp (slice_cmp nat_cmp) q key) (Some value) None

pub passes-one_field : (key : Bytes) (value : Text) → Passes (spells_params (Some (insert empty key value))) (may_have (one_field key value))
passes-one_field key value = passes-params (insert empty key value) (one_field key value) (λ q. get-insert nat_list_cmp_total empty key value q ∙ ap (λ z. cond (eq_by_cmp (slice_cmp nat_cmp) q key) (Some value) z) (get-empty (slice_cmp nat_cmp) q))
