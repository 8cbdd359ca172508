-- The bodies that a search goes over are those at paths.
use Rattle.std.proofs.Common.{◌≡◌, ◌↔◌, ℕ, zero, suc, ◌+◌, ◌-◌, ◌≤◌, ◌^◌, List, [], ◌∷◌, ◌++◌, length, slice_get, Option, Some, true, nat_lt, refl, sym, ap, subst, ◌∙◌, ◌⊎◌, inl, inr, arith, append_assoc}
use Rattle.std.specs.List.{Contains, AllPairs}
use Rattle.std.specs.Option.{option_and_then}
use Rattle.std.proofs.lemmas.Bool.{false≢true, cases_lt, or_cases, or_left, or_right, lt-ltb, ltb-true}
use Rattle.std.proofs.lemmas.Option.{none-some, same_Some}
use Rattle.std.proofs.lemmas.List.{append-nil, get_or_append_left, get_or-append_right, length-append}
use Rattle.std.proofs.lemmas.List.Elements.{Contains-append_left, Contains-append_right, Contains-append_cases, Contains-get_or}
use Rattle.imap_body_types.specs.BodyValues.{BodyValue, Basic, TextBody, Message, Multipart, Bodies, no_bodies, one_body}
use Rattle.imap_sections.specs.Search.{visited, visited_from, count, is_crowded, too_many, too_many_in}
use Rattle.imap_sections.specs.PartNumbers.{body_list, body_parts, body_at, IsBefore, HasTooManyParts, SomeHasTooMany}

-- a body at a path, as it is visited
abbrev Visit : Type 0
Visit = List ℕ × BodyValue

-- one in a list of bodies, and a path in it
abbrev at_in : List BodyValue → ℕ → List ℕ → Option BodyValue
at_in bs k q = option_and_then (body_at q) (slice_get bs k)

cons_cases : {X : Type 0} (y : X) (ys : List X) (z : X) → Contains (y ∷ ys) z → (y ≡ z) ⊎ Contains ys z
cons_cases y ys z (zero, l, e) = inl e
cons_cases y ys z (suc k, l, e) = inr (k, omega (arith, l), e)

here : {X : Type 0} (y : X) (ys : List X) → Contains (y ∷ ys) y
here y ys = (zero, omega arith, refl)

there : {X : Type 0} (y : X) (ys : List X) (z : X) → Contains ys z → Contains (y ∷ ys) z
there y ys z (k, l, e) = (suc k, omega (arith, l), e)

-- ---- what is visited is at its path

-- the path behind that of the body
record Under (path : List ℕ) (b : BodyValue) (p : List ℕ) (x : BodyValue) : Type 0 where
  behind : List ℕ
  whole : p ≡ path ++ behind
  there : body_at behind b ≡ Some x

-- the number behind that of the bodies' path, and the path behind it
record UnderOne (path : List ℕ) (n : ℕ) (bs : Bodies) (p : List ℕ) (x : BodyValue) : Type 0 where
  nth : ℕ
  behind : List ℕ
  whole : p ≡ path ++ (n + nth) ∷ behind
  there : at_in (body_list bs) nth behind ≡ Some x

itself : (path : List ℕ) (b : BodyValue) (p : List ℕ) (x : BodyValue) → ◌≡◌ {A = Visit} (path, b) (p, x) → Under path b p x
itself path b p x e =
    record {
      behind = [];
      whole = sym (ap (λ (v : Visit). v.0) e) ∙ sym (append-nil path);
      there = ap (λ (v : Visit). Some v.1) e;
    }

sole : (path : List ℕ) (b : BodyValue) (v : Visit) → Contains {X = Visit} ((path, b) ∷ []) v → path ≡ v.0
sole path b v c = elim (cons_cases (path, b) [] v c) [
  | inl e ↦ ap (λ (w : Visit). w.0) e
  | inr none ↦ absurd (omega (arith, none.1))
]

alone : (path : List ℕ) (b : BodyValue) (p : List ℕ) (x : BodyValue) → Contains {X = Visit} ((path, b) ∷ []) (p, x) → Under path b p x
alone path b p x c = elim (cons_cases (path, b) [] (p, x) c) [
  | inl e ↦ itself path b p x e
  | inr none ↦ absurd (omega (arith, none.1))
]

mutual
  under : (path : List ℕ) (b : BodyValue) (p : List ℕ) (x : BodyValue) → Contains (visited path b) (p, x) → Under path b p x
  under path (Basic common other last) p x c = alone path _ p x c
  under path (TextBody common other lines last) p x c = alone path _ p x c
  under path (Message common other envelope inner lines last) p x c = alone path _ p x c
  under path (Multipart common bodies last) p x c = elim (cons_cases (path, Multipart common bodies last) (visited_from path 1 bodies) (p, x) c) [
    | inl e ↦ itself path _ p x e
    | inr more ↦ let u = under_one path 1 bodies p x more in record {
      behind = suc u.nth ∷ u.behind;
      whole = u.whole ∙ ap (λ k. path ++ k ∷ u.behind) (omega arith);
      there = u.there;
    }
  ]

  under_one : (path : List ℕ) (n : ℕ) (bs : Bodies) (p : List ℕ) (x : BodyValue) → Contains (visited_from path n bs) (p, x) → UnderOne path n bs p x
  under_one path n no_bodies p x c = absurd (omega (arith, c.1))
  under_one path n (one_body b bs) p x c = elim (Contains-append_cases (visited (path ++ n ∷ []) b) (visited_from path (n + 1) bs) (p, x) c) [
    | inl first ↦ let u = under (path ++ n ∷ []) b p x first in record {
      nth = 0;
      behind = u.behind;
      whole = u.whole ∙ append_assoc path (n ∷ []) u.behind ∙ ap (λ k. path ++ k ∷ u.behind) (omega arith);
      there = u.there;
    }
    | inr more ↦ let u = under_one path (n + 1) bs p x more in record {
      nth = suc u.nth;
      behind = u.behind;
      whole = u.whole ∙ ap (λ k. path ++ k ∷ u.behind) (omega arith);
      there = u.there;
    }
  ]

-- ---- what is at a path is visited

reached : (path : List ℕ) (b : BodyValue) (bs : List Visit) (x : BodyValue) → ◌≡◌ {A = Option BodyValue} (Some b) (Some x) → Contains {X = Visit} ((path, b) ∷ bs) (path ++ [], x)
reached path b bs x e = subst (Contains {X = Visit} ((path, b) ∷ bs)) (ap (λ (y : BodyValue). (path, y)) (same_Some b x e) ∙ ap (λ p. (p, x)) (sym (append-nil path))) (here (path, b) bs)

only : (path : List ℕ) (b : BodyValue) (q : List ℕ) (x : BodyValue) → body_parts b ≡ [] → body_at q b ≡ Some x → Contains {X = Visit} ((path, b) ∷ []) (path ++ q, x)
only path b [] x none e = reached path b [] x e
only path b (zero ∷ q) x none e = absurd (none-some x e)
only path b (suc k ∷ q) x none e = absurd (none-some x (rw none at e))

mutual
  found : (path : List ℕ) (b : BodyValue) (q : List ℕ) (x : BodyValue) → body_at q b ≡ Some x → Contains (visited path b) (path ++ q, x)
  found path (Basic common other last) q x e = only path _ q x refl e
  found path (TextBody common other lines last) q x e = only path _ q x refl e
  found path (Message common other envelope inner lines last) q x e = only path _ q x refl e
  found path (Multipart common inner last) [] x e = reached path _ _ x e
  found path (Multipart common inner last) (zero ∷ q) x e = absurd (none-some x e)
  found path (Multipart common bodies last) (suc k ∷ q) x e =
      there _ _ _ (subst (λ n. Contains (visited_from path 1 bodies) (path ++ n ∷ q, x)) (omega arith) (found_one path 1 bodies k q x e))

  found_one : (path : List ℕ) (n : ℕ) (bs : Bodies) (k : ℕ) (q : List ℕ) (x : BodyValue) → at_in (body_list bs) k q ≡ Some x → Contains (visited_from path n bs) (path ++ (n + k) ∷ q, x)
  found_one path n no_bodies k q x e = absurd (none-some x e)
  found_one path n (one_body b bs) zero q x e =
      Contains-append_left (visited (path ++ n ∷ []) b) (visited_from path (n + 1) bs) _
      (subst (λ p. Contains (visited (path ++ n ∷ []) b) (p, x)) (append_assoc path (n ∷ []) q ∙ ap (λ k. path ++ k ∷ q) (omega arith)) (found (path ++ n ∷ []) b q x e))
  found_one path n (one_body b bs) (suc k) q x e =
      Contains-append_right (visited (path ++ n ∷ []) b) (visited_from path (n + 1) bs) _
      (subst (λ m. Contains (visited_from path (n + 1) bs) (path ++ m ∷ q, x)) (omega arith) (found_one path (n + 1) bs k q x e))

pub visited_at : (root body : BodyValue) (path : List ℕ) → Contains (visited [] root) (path, body) ↔ (body_at path root ≡ Some body)
visited_at root body path = (
  λ c. let u = under [] root path body c in subst (λ p. body_at p root ≡ Some body) (sym u.whole) u.there,
  found [] root path body,
)

-- ---- in reading order

behind_both : (path p q : List ℕ) → IsBefore p q → IsBefore (path ++ p) (path ++ q)
behind_both [] p q h = h
behind_both (n ∷ path) p q h = inr (refl, behind_both path p q h)

parent : (path q : List ℕ) (n : ℕ) → IsBefore path (path ++ n ∷ q)
parent [] q n = tt
parent (m ∷ path) q n = inr (refl, parent path q n)

all_pairs_append : {X : Type 0} (R : X → X → Type 0) (xs ys : List X) → AllPairs R xs → AllPairs R ys → ((x y : X) → Contains xs x → Contains ys y → R x y) → AllPairs R (xs ++ ys)
all_pairs_append R xs ys hx hy across i j d less inside = elim (cases_lt j (length xs)) [
  | inl jx ↦ rw (get_or_append_left xs ys d i (omega (arith, less, jx)), get_or_append_left xs ys d j jx) (hx i j d less jx)
  | inr jy ↦ elim (cases_lt i (length xs)) [
    | inl ix ↦ rw (get_or_append_left xs ys d i ix, get_or-append_right xs ys (length xs) j d refl jy) (across _ _ (Contains-get_or xs i d ix) (Contains-get_or ys (j - length xs) d (omega (arith, inside, jy, length-append xs ys))))
    | inr iy ↦ rw (get_or-append_right xs ys (length xs) i d refl iy, get_or-append_right xs ys (length xs) j d refl jy) (hy (i - length xs) (j - length xs) d (omega (arith, less, iy)) (omega (arith, inside, jy, length-append xs ys)))
  ]
]

abbrev before : Visit → Visit → Type 0
before v w = IsBefore v.0 w.0

lone : (v : Visit) → AllPairs before (v ∷ [])
lone v i j d less inside = absurd (omega (arith, less, inside))

mutual
  ordered : (path : List ℕ) (b : BodyValue) → AllPairs before (visited path b)
  ordered path (Basic common other last) = lone _
  ordered path (TextBody common other lines last) = lone _
  ordered path (Message common other envelope inner lines last) = lone _
  ordered path (Multipart common bodies last) =
      all_pairs_append before ((path, Multipart common bodies last) ∷ []) (visited_from path 1 bodies) (lone _) (ordered_from path 1 bodies)
      (λ v w first later. let u = under_one path 1 bodies w.0 w.1 later in
      subst (λ p. IsBefore p w.0) (sole path (Multipart common bodies last) v first) (subst (IsBefore path) (sym u.whole) (parent path u.behind (1 + u.nth))))

  ordered_from : (path : List ℕ) (n : ℕ) (bs : Bodies) → AllPairs before (visited_from path n bs)
  ordered_from path n no_bodies = λ i j d less inside. absurd (omega (arith, less, inside))
  ordered_from path n (one_body b bs) =
      all_pairs_append before (visited (path ++ n ∷ []) b) (visited_from path (n + 1) bs) (ordered (path ++ n ∷ []) b) (ordered_from path (n + 1) bs)
      (λ v w first later.
      let u = under (path ++ n ∷ []) b v.0 v.1 first in
      let t = under_one path (n + 1) bs w.0 w.1 later in
      rw (u.whole, t.whole, append_assoc path (n ∷ []) u.behind) (behind_both path (n ∷ u.behind) ((n + 1 + t.nth) ∷ t.behind) (inl (omega arith))))

pub in_order : (root : BodyValue) → AllPairs (λ v w. IsBefore v.0 w.0) (visited [] root)
in_order root = ordered [] root

-- ---- more bodies than a part number can count

counted : (bs : Bodies) → count bs ≡ length (body_list bs)
counted no_bodies = refl
counted (one_body b bs) = ap suc (counted bs)

more : (bs : Bodies) → nat_lt 4294967295 (count bs) ≡ true → 2 ^ 32 ≤ length (body_list bs)
more bs h = ltb-true 4294967295 (length (body_list bs)) (rw counted at h)

too_long : (bs : Bodies) → 2 ^ 32 ≤ length (body_list bs) → nat_lt 4294967295 (count bs) ≡ true
too_long bs h = rw counted (lt-ltb 4294967295 (length (body_list bs)) h)

pub crowded_by_length : (body : BodyValue) → (is_crowded body ≡ true) ↔ HasTooManyParts body
crowded_by_length (Basic common other last) = (λ h. absurd (false≢true h), λ h. absurd (omega (arith, h)))
crowded_by_length (TextBody common other lines last) = (λ h. absurd (false≢true h), λ h. absurd (omega (arith, h)))
crowded_by_length (Message common other envelope inner lines last) = (λ h. absurd (false≢true h), λ h. absurd (omega (arith, h)))
crowded_by_length (Multipart common bodies last) = (more bodies, too_long bodies)

record CrowdedIn (bs : Bodies) : Type 0 where
  nth : ℕ
  path : List ℕ
  body : BodyValue
  there : at_in (body_list bs) nth path ≡ Some body
  crowded : HasTooManyParts body

mutual
  crowded_at : (b : BodyValue) → too_many b ≡ true → SomeHasTooMany b
  crowded_at (Basic common other last) h = absurd (false≢true h)
  crowded_at (TextBody common other lines last) h = absurd (false≢true h)
  crowded_at (Message common other envelope inner lines last) h = absurd (false≢true h)
  crowded_at (Multipart common bodies last) h = elim (or_cases (nat_lt 4294967295 (count bodies)) (too_many_in bodies) h) [
    | inl long ↦ ([], Multipart common bodies last, refl, more bodies long)
    | inr inside ↦ let c = crowded_in bodies inside in (suc c.nth ∷ c.path, c.body, c.there, c.crowded)
  ]

  crowded_in : (bs : Bodies) → too_many_in bs ≡ true → CrowdedIn bs
  crowded_in no_bodies h = absurd (false≢true h)
  crowded_in (one_body b bs) h = elim (or_cases (too_many b) (too_many_in bs) h) [
    | inl first ↦ let c = crowded_at b first in record { nth = 0; path = c.0; body = c.1; there = c.2; crowded = c.3 }
    | inr later ↦ let c = crowded_in bs later in record { nth = suc c.nth; path = c.path; body = c.body; there = c.there; crowded = c.crowded }
  ]

crowded_here : (b x : BodyValue) → ◌≡◌ {A = Option BodyValue} (Some b) (Some x) → HasTooManyParts x → is_crowded b ≡ true
crowded_here b x e h = (crowded_by_length b).1 (subst HasTooManyParts (sym (same_Some b x e)) h)

mutual
  many_at : (b : BodyValue) (path : List ℕ) (x : BodyValue) → body_at path b ≡ Some x → HasTooManyParts x → too_many b ≡ true
  many_at (Basic common other last) [] x e h = crowded_here _ x e h
  many_at (TextBody common other lines last) [] x e h = crowded_here _ x e h
  many_at (Message common other envelope inner lines last) [] x e h = crowded_here _ x e h
  many_at (Multipart common bodies last) [] x e h = or_left _ (too_many_in bodies) (crowded_here _ x e h)
  many_at b (zero ∷ q) x e h = absurd (none-some x e)
  many_at (Basic common other last) (suc k ∷ q) x e h = absurd (none-some x e)
  many_at (TextBody common other lines last) (suc k ∷ q) x e h = absurd (none-some x e)
  many_at (Message common other envelope inner lines last) (suc k ∷ q) x e h = absurd (none-some x e)
  many_at (Multipart common bodies last) (suc k ∷ q) x e h = or_right (nat_lt 4294967295 (count bodies)) _ (many_in bodies k q x e h)

  many_in : (bs : Bodies) (k : ℕ) (q : List ℕ) (x : BodyValue) → at_in (body_list bs) k q ≡ Some x → HasTooManyParts x → too_many_in bs ≡ true
  many_in no_bodies k q x e h = absurd (none-some x e)
  many_in (one_body b bs) zero q x e h = or_left _ (too_many_in bs) (many_at b q x e h)
  many_in (one_body b bs) (suc k) q x e h = or_right (too_many b) _ (many_in bs k q x e h)

pub too_many_at : (root : BodyValue) → (too_many root ≡ true) ↔ SomeHasTooMany root
too_many_at root = (crowded_at root, λ c. many_at root c.0 c.1 c.2 c.3)
