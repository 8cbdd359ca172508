-- The first text in a body.
use Rattle.std.specs.Prelude.{◌≡◌, ℕ, Bool, true, false, List, [], Option}
use Rattle.imap_body_types.specs.BodyValues.{BodyValue, TextBody}
use Rattle.imap_sections.specs.Search.{visited, FindsFirst}

abbrev pub is_text : BodyValue → Bool
is_text (TextBody common other lines last) = true
is_text other = false

-- Of the body and the bodies inside it, parent before child and left to right, it is the path of the first text; and
-- none where no body is one.
abbrev pub IsFirstText : BodyValue → Option (List ℕ) → Type 0
IsFirstText body path =
    FindsFirst (λ visit answer. answer ≡ is_text visit.1) (λ visit. visit.0) (visited [] body) path
