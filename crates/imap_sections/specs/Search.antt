-- Part search: the bodies inside a body, by their paths (RFC 3501, section 6.4.5: part numbers).
use Rattle.std.specs.Prelude.{◌≡◌, ℕ, suc, ◌+◌, List, [], ◌∷◌, ◌++◌, All, Option, None, Some, Bool, true, false, ◌||◌, nat_lt}
use Rattle.imap_grammar.specs.Text.{text_of}
use Rattle.imap_body_types.specs.Spans.{bytes_of}
use Rattle.imap_body_types.specs.BodyValues.{BodyValue, Basic, TextBody, Message, Multipart, Bodies, no_bodies, one_body, body_seen}
use Rattle.imap_sections.specs.declared.search.Part.{Part}
use Rattle.imap_sections.specs.declared.search.BodyStructParser.{BodyStructParser}

-- A body at its path, and behind it the bodies inside multiparts, each with its path: parent before child, left to
-- right. The bodies of a multipart count from 1. The body inside a message is not among them.
abbrev mutual
  pub visited : List ℕ → BodyValue → List (List ℕ × BodyValue)
  visited path (Basic common other last) = (path, Basic common other last) ∷ []
  visited path (TextBody common other lines last) = (path, TextBody common other lines last) ∷ []
  visited path (Message common other envelope inner lines last) =
      (path, Message common other envelope inner lines last) ∷ []
  visited path (Multipart common bodies last) =
      (path, Multipart common bodies last) ∷ visited_from path 1 bodies

  pub visited_from : List ℕ → ℕ → Bodies → List (List ℕ × BodyValue)
  visited_from path k no_bodies = []
  visited_from path k (one_body b bs) = visited (path ++ (k ∷ [])) b ++ visited_from path (k + 1) bs

-- how many bodies a list has
abbrev pub count : Bodies → ℕ
count no_bodies = 0
count (one_body b bs) = suc (count bs)

-- whether a body is a multipart with more bodies than a part number can count
abbrev pub is_crowded : BodyValue → Bool
is_crowded (Basic common other last) = false
is_crowded (TextBody common other lines last) = false
is_crowded (Message common other envelope inner lines last) = false
is_crowded (Multipart common bodies last) = nat_lt 4294967295 (count bodies)

-- whether some body that is visited is one
abbrev mutual
  pub too_many : BodyValue → Bool
  too_many (Basic common other last) = false
  too_many (TextBody common other lines last) = false
  too_many (Message common other envelope inner lines last) = false
  too_many (Multipart common bodies last) = nat_lt 4294967295 (count bodies) || too_many_in bodies

  pub too_many_in : Bodies → Bool
  too_many_in no_bodies = false
  too_many_in (one_body b bs) = too_many b || too_many_in bs

-- Found is the path of one of these at which the answer is true, and at those before it the answer is false.
pub record IsFirst {X : Type 0}
    (answers : X → Bool → Type 0) (path : X → List ℕ) (xs : List X) (found : List ℕ) :
    Type 0 where
  pub before : List X
  pub first : X
  pub behind : List X
  pub parts : xs ≡ before ++ first ∷ behind
  pub fails : All (λ x. answers x false) before
  pub holds : answers first true
  pub found_there : found ≡ path first

-- The path of the first at which the answer is true, and none exactly where it is false at each.
abbrev pub FindsFirst :
    {X : Type 0} → (X → Bool → Type 0) → (X → List ℕ) → List X → Option (List ℕ) → Type 0
FindsFirst answers path xs None = All (λ x. answers x false) xs
FindsFirst answers path xs (Some found) = IsFirst answers path xs found

-- a body and its path, as a search holds them
abbrev pub part_seen : Part → List ℕ × BodyValue
part_seen p = (p.path.items, body_seen text_of bytes_of p.body.now)

-- the bodies that a search goes over, each with its path
abbrev pub parts_of : BodyStructParser → List Part
parts_of p = p.parts.items
