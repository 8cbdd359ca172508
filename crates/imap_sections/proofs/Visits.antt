-- What a search goes over.
use Rattle.std.proofs.Common.{◌≡◌, ℕ, List, [], ◌∷◌, refl, sym, ap, ◌∙◌, subst, map, Vec, Global, Bool, true, false, ◌||◌, nat_lt, Option, Some, All, take, drop, ◌++◌, ◌+◌, ◌<◌, ◌≤◌, suc, length, get_or}
use Rattle.std.proofs.lemmas.Bool.{lt-ltb, le-ltb, false≢true}
use Rattle.std.proofs.lemmas.List.{drop_all, drop_more, take_more, take-append-drop}
use Rattle.std.proofs.lemmas.List.Elements.{All-push}
use Rattle.std.specs.declared.borrow.CowStr.{CowStr}
use Rattle.std.specs.declared.borrow.CowSlice.{CowSlice}
use Rattle.imap_grammar.specs.Text.{text_of}
use Rattle.imap_body_types.specs.Spans.{bytes_of}
use Rattle.imap_body_types.specs.BodyValues.{BodyValue, no_bodies, one_body, bodies_of, body_seen}
use Rattle.imap_sections.specs.Search.{visited, visited_from, count, is_crowded, too_many, too_many_in, FindsFirst}
use Rattle.imap_body_types.specs.declared.shapes.extensions.BodyExtension.{BodyExtension}
use Rattle.imap_body_types.specs.declared.shapes.bodies.BodyContentCommon.{BodyContentCommon}
use Rattle.imap_body_types.specs.declared.shapes.bodies.BodyStructure.{BodyStructure}
use Rattle.imap_body_types.specs.declared.shapes.bodies.BodyStructure.TheVariants as body
use Rattle.imap_body_types.specs.declared.shapes.bodies.BodyStructure.TheOpen as layer
use Rattle.imap_body_types.specs.declared.shapes.bodies.BodyStructure.TheOpen.{BodyStructure-F}
use Rattle.imap_body_types.specs.declared.shapes.bodies.BodyStructure.TheViews.{roll-BodyStructure, out-BodyStructure, roll-out-BodyStructure}
use Rattle.imap_body_types.proofs.Trees.{basic_seen, text_seen, message_seen, multipart_seen}

abbrev Body : Type 0
Body = BodyStructure (CowStr Global) (CowSlice ℕ Global)

-- one of the parts, behind those before it, at which the answer is false
module _ {X : Type 0} (answers : X → Bool → Type 0) (xs : List X) (i : ℕ) (inside : i < length xs) (x : X) (is : x ≡ get_or xs i x) (before : All (λ y. answers y false) (take i xs)) where
  here : drop i xs ≡ x ∷ drop (i + 1) xs
  here = drop_more xs i x inside ∙ ap (λ y. y ∷ drop (i + 1) xs) (sym is)

  pub found_here : (path : X → List ℕ) → answers x true → FindsFirst answers path xs (Some (path x))
  found_here path holds =
      record {
        before = take i xs;
        first = x;
        behind = drop (i + 1) xs;
        parts = sym (take-append-drop i xs) ∙ ap (λ l. take i xs ++ l) here;
        fails = before;
        holds = holds;
        found_there = refl;
      }

  pub not_here : answers x false → All (λ y. answers y false) (take (i + 1) xs)
  not_here fails = subst (All (λ y. answers y false)) (ap (λ y. take i xs ++ y ∷ []) is ∙ sym (take_more xs i x inside)) (All-push (λ y. answers y false) (take i xs) x before fails)

abbrev seen : Body → BodyValue
seen = body_seen text_of bytes_of

-- ---- multiparts

pub visited_multipart : (path : List ℕ) (b : Body) (common : BodyContentCommon (CowStr Global)) (v : Vec Body Global) (last : Option (BodyExtension (CowStr Global))) → b ≡ body.Multipart common v last → visited path (body_seen text_of bytes_of b) ≡ (path, body_seen text_of bytes_of b) ∷ visited_from path 1 (bodies_of (map (body_seen text_of bytes_of) v.items))
visited_multipart path b common v last is = rw (is, multipart_seen text_of bytes_of common v last) refl

counted : (xs : List Body) → count (bodies_of (map seen xs)) ≡ length xs
counted [] = refl
counted (x ∷ xs) = ap suc (counted xs)

pub too_many_multipart : (b : Body) (common : BodyContentCommon (CowStr Global)) (v : Vec Body Global) (last : Option (BodyExtension (CowStr Global))) → b ≡ body.Multipart common v last → too_many (body_seen text_of bytes_of b) ≡ (nat_lt 4294967295 (length v.items) || too_many_in (bodies_of (map (body_seen text_of bytes_of) v.items)))
too_many_multipart b common v last is = rw (is, multipart_seen text_of bytes_of common v last) (ap (λ n. nat_lt 4294967295 n || too_many_in (bodies_of (map seen v.items))) (counted v.items))

-- the next body of those that are left
pub opened : (xs : List Body) (k : ℕ) (x : Body) → k < length xs → x ≡ get_or xs k x → bodies_of (map (body_seen text_of bytes_of) (drop k xs)) ≡ one_body (body_seen text_of bytes_of x) (bodies_of (map (body_seen text_of bytes_of) (drop (k + 1) xs)))
opened xs k x less is = ap (λ l. bodies_of (map seen l)) (drop_more xs k x less ∙ ap (λ y. y ∷ drop (k + 1) xs) (sym is))

pub many_here : (xs : List Body) (k : ℕ) (x : Body) → k < length xs → x ≡ get_or xs k x → too_many (body_seen text_of bytes_of x) ≡ true → too_many_in (bodies_of (map (body_seen text_of bytes_of) (drop k xs))) ≡ true
many_here xs k x less is h = ap too_many_in (opened xs k x less is) ∙ ap (λ b. b || too_many_in (bodies_of (map seen (drop (k + 1) xs)))) h

-- more bodies than a part number can count
pub crowded : (b : Body) (common : BodyContentCommon (CowStr Global)) (v : Vec Body Global) (last : Option (BodyExtension (CowStr Global))) → b ≡ body.Multipart common v last → 4294967295 < length v.items → too_many (body_seen text_of bytes_of b) ≡ true
crowded b common v last is more = too_many_multipart b common v last is ∙ ap (λ x. x || too_many_in (bodies_of (map seen v.items))) (lt-ltb 4294967295 (length v.items) more)

-- no more than it can count
pub uncrowded : (b : Body) (common : BodyContentCommon (CowStr Global)) (v : Vec Body Global) (last : Option (BodyExtension (CowStr Global))) → b ≡ body.Multipart common v last → length v.items ≤ 4294967295 → too_many_in (bodies_of (map (body_seen text_of bytes_of) v.items)) ≡ too_many (body_seen text_of bytes_of b)
uncrowded b common v last is few = sym (too_many_multipart b common v last is ∙ ap (λ x. x || too_many_in (bodies_of (map seen v.items))) (le-ltb 4294967295 (length v.items) few))

pub not_crowded : (b : Body) (common : BodyContentCommon (CowStr Global)) (v : Vec Body Global) (last : Option (BodyExtension (CowStr Global))) → b ≡ body.Multipart common v last → length v.items ≤ 4294967295 → is_crowded (body_seen text_of bytes_of b) ≡ true → ⊥
not_crowded b common v last is few = rw (is, multipart_seen text_of bytes_of common v last, counted v.items, le-ltb 4294967295 (length v.items) few) false≢true

-- behind the last body
pub none_left : (xs : List Body) (k : ℕ) → length xs ≤ k → bodies_of (map (body_seen text_of bytes_of) (drop k xs)) ≡ no_bodies
none_left xs k all = ap (λ l. bodies_of (map seen l)) (drop_all k xs all)

-- ---- bodies of other kinds

record Alone (path : List ℕ) (b : BodyValue) : Type 0 where
  visited : visited path b ≡ (path, b) ∷ []
  few : too_many b ≡ false
  roomy : is_crowded b ≡ false

alone : (path : List ℕ) (x : BodyStructure-F (CowStr Global) (CowSlice ℕ Global) Body) → ((common : BodyContentCommon (CowStr Global)) (v : Vec Body Global) (last : Option (BodyExtension (CowStr Global))) → roll-BodyStructure (CowStr Global) (CowSlice ℕ Global) x ≡ body.Multipart common v last → ⊥) → Alone path (seen (roll-BodyStructure (CowStr Global) (CowSlice ℕ Global) x))
alone path (layer.Basic common other last) h = rw (ap seen (body.rolls-Basic common other last) ∙ basic_seen text_of bytes_of common other last) record { visited = refl; few = refl; roomy = refl }
alone path (layer.Text common other lines last) h = rw (ap seen (body.rolls-Text common other lines last) ∙ text_seen text_of bytes_of common other lines last) record { visited = refl; few = refl; roomy = refl }
alone path (layer.Message common other envelope inner lines last) h = rw (ap seen (body.rolls-Message common other envelope inner lines last) ∙ message_seen text_of bytes_of common other envelope inner lines last) record { visited = refl; few = refl; roomy = refl }
alone path (layer.Multipart common v last) h = absurd (h common v last (body.rolls-Multipart common v last))

alone_as : (path : List ℕ) (b : Body) → ((common : BodyContentCommon (CowStr Global)) (v : Vec Body Global) (last : Option (BodyExtension (CowStr Global))) → b ≡ body.Multipart common v last → ⊥) → Alone path (seen b)
alone_as path b h = subst (λ z. Alone path (seen z)) (roll-out-BodyStructure (CowStr Global) (CowSlice ℕ Global) b) (alone path (out-BodyStructure (CowStr Global) (CowSlice ℕ Global) b) (λ common v last is. h common v last (sym (roll-out-BodyStructure (CowStr Global) (CowSlice ℕ Global) b) ∙ is)))

pub visited_alone : (path : List ℕ) (b : Body) → ((common : BodyContentCommon (CowStr Global)) (v : Vec Body Global) (last : Option (BodyExtension (CowStr Global))) → b ≡ body.Multipart common v last → ⊥) → visited path (body_seen text_of bytes_of b) ≡ (path, body_seen text_of bytes_of b) ∷ []
visited_alone path b h = (alone_as path b h).visited

pub few_alone : (b : Body) → ((common : BodyContentCommon (CowStr Global)) (v : Vec Body Global) (last : Option (BodyExtension (CowStr Global))) → b ≡ body.Multipart common v last → ⊥) → too_many (body_seen text_of bytes_of b) ≡ false
few_alone b h = (alone_as [] b h).few

pub alone_not_crowded : (b : Body) → ((common : BodyContentCommon (CowStr Global)) (v : Vec Body Global) (last : Option (BodyExtension (CowStr Global))) → b ≡ body.Multipart common v last → ⊥) → is_crowded (body_seen text_of bytes_of b) ≡ true → ⊥
alone_not_crowded b h = rw (alone_as [] b h).roomy false≢true
