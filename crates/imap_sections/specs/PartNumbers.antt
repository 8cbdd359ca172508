-- Part numbers (RFC 3501, section 6.4.5): the body at a path inside another, said without going over them.
use Rattle.std.specs.Prelude.{◌≡◌, ◌⊎◌, ⊤, ℕ, zero, suc, ◌^◌, ◌<◌, ◌≤◌, List, [], ◌∷◌, length, slice_get, Option, None, Some}
use Rattle.std.specs.Option.{option_and_then}
use Rattle.imap_body_types.specs.BodyValues.{BodyValue, Basic, TextBody, Message, Multipart, Bodies, no_bodies, one_body}

abbrev pub body_list : Bodies → List BodyValue
body_list no_bodies = []
body_list (one_body b bs) = b ∷ body_list bs

-- The body parts of a multipart, in order. Other bodies have none: the body inside a message is not one.
abbrev pub body_parts : BodyValue → List BodyValue
body_parts (Basic common other last) = []
body_parts (TextBody common other lines last) = []
body_parts (Message common other envelope inner lines last) = []
body_parts (Multipart common bodies last) = body_list bodies

-- The body at a path. At the empty path it is the body itself. At k and a path behind it, it is the body at that path
-- inside the k-th body part. The first is number 1, so no number is 0.
abbrev pub body_at : List ℕ → BodyValue → Option BodyValue
body_at [] b = Some b
body_at (zero ∷ path) b = None
body_at (suc k ∷ path) b = option_and_then (body_at path) (slice_get (body_parts b) k)

-- Whether a path comes before another one: a parent's before its parts', and else that with the lower number where they
-- first differ.
abbrev pub IsBefore : List ℕ → List ℕ → Type 0
IsBefore p [] = ⊥
IsBefore [] (n ∷ q) = ⊤
IsBefore (m ∷ p) (n ∷ q) = (m < n) ⊎ (m ≡ n) × IsBefore p q

-- whether a body has more body parts than a number of 32 bits can count
abbrev pub HasTooManyParts : BodyValue → Type 0
HasTooManyParts b = 2 ^ 32 ≤ length (body_parts b)

-- whether a body at some path has
abbrev pub SomeHasTooMany : BodyValue → Type 0
SomeHasTooMany root =
    (path : List ℕ) × (body : BodyValue) × (body_at path root ≡ Some body) × HasTooManyParts body
