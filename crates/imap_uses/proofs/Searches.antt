-- What a search finds among bodies, by what they are seen as.
use Rattle.std.proofs.Common.{◌≡◌, ℕ, Bool, true, false, List, ◌∷◌, Option, None, Some, Global, Bor, map, refl, ap, subst, ◌∙◌}
use Rattle.std.proofs.lemmas.List.{map-append}
use Rattle.std.proofs.lemmas.List.Elements.{All-map}
use Rattle.std.specs.Fn.{Shared, FnReturnsAt}
use Rattle.std.specs.declared.borrow.CowStr.{CowStr}
use Rattle.std.specs.declared.borrow.CowSlice.{CowSlice}
use Rattle.imap_grammar.specs.Text.{text_of}
use Rattle.imap_body_types.specs.Spans.{bytes_of}
use Rattle.imap_body_types.specs.BodyValues.{BodyValue, body_seen}
use Rattle.imap_body_types.specs.declared.shapes.bodies.BodyStructure.{BodyStructure}
use Rattle.imap_sections.specs.Search.{FindsFirst, part_seen}
use Rattle.imap_sections.specs.declared.search.Part.{Part}

abbrev Body : Type 0
Body = BodyStructure (CowStr Global) (CowSlice ℕ Global)

-- What is found among elements is found among what they are seen as, where each answer and each path are those of what
-- is seen.
pub found_as_seen : {X Y : Type 0} (answers : X → Bool → Type 0) (path : X → List ℕ) (told : Y → Bool → Type 0) (place : Y → List ℕ) (seen : X → Y)
    → ((x : X) (b : Bool) → answers x b → told (seen x) b)
    → ((x : X) → path x ≡ place (seen x))
    → (xs : List X) (found : Option (List ℕ))
    → FindsFirst answers path xs found → FindsFirst told place (map seen xs) found
found_as_seen answers path told place seen tells same xs None none =
    All-map (λ y. told y false) seen xs (λ k x h. tells _ false (none k x h))
found_as_seen answers path told place seen tells same xs (Some found) is =
    record {
      before = map seen is.before;
      first = seen is.first;
      behind = map seen is.behind;
      parts = ap (map seen) is.parts ∙ map-append seen is.before (is.first ∷ is.behind);
      fails = All-map (λ y. told y false) seen is.before (λ k x h. tells _ false (is.fails k x h));
      holds = tells is.first true is.holds;
      found_there = is.found_there ∙ same is.first;
    }

-- A search by a closure that answers a test of what a body is seen as finds the first at which that test is true.
pub found_by_test : {F : Type 0} (g : Shared F (Bor Body × Unit {0}) Bool) (f : F) (parts : List Part) (visits : List (List ℕ × BodyValue)) (found : Option (List ℕ))
    → map part_seen parts ≡ visits
    → FindsFirst (λ p. FnReturnsAt g f p.body.now) (λ p. p.path.items) parts found
    → (test : BodyValue → Bool)
    → ((y : Bor Body) (b : Bool) → g.post f (y, tt) b → b ≡ test (body_seen text_of bytes_of y.now))
    → FindsFirst (λ visit answer. answer ≡ test visit.1) (λ visit. visit.0) visits found
found_by_test g f parts visits found holds is test answers =
    subst (λ v. FindsFirst (λ visit answer. answer ≡ test visit.1) (λ visit. visit.0) v found) holds
    (found_as_seen (λ (p : Part) b. FnReturnsAt g f p.body.now b) (λ p. p.path.items) (λ visit answer. answer ≡ test visit.1) (λ visit. visit.0) part_seen
    (λ p b k. answers k.shown b k.says.met ∙ ap (λ x. test (body_seen text_of bytes_of x)) k.shows)
    (λ p. refl) parts found is)
