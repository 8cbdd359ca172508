-- What the responses are that are not read back.
use Rattle.std.proofs.Common.{◌≡◌, ◌≤◌, ◌^◌, true, not, nat_lt, [], ◌∷◌, ◌++◌, length, Option, None, Some, refl, sym, ap, inl, inr}
use Rattle.std.specs.List.{list_any}
use Rattle.std.proofs.lemmas.Bool.{false≢true, or_cases, ltb-false, eqb-true, not-true}
use Rattle.imap_grammar.specs.Pieces.{Raw, Lit, Pieces}
use Rattle.imap_grammar.specs.Text.{Bytes, Text}
use Rattle.imap_data.specs.Codes.{CodeValue}
use Rattle.imap_proto.specs.Responses.{Continue, Done, Data}
use Rattle.imap_proto.specs.OutcomeTexts.{opens_bracket, is_like_code}
use Rattle.imap_proto.specs.LineTexts.{canonical_response, is_too_long, BracketIsSaid, LiteralIsTooLong}

opened : (b : Bytes) → opens_bracket b ≡ true → (behind : Bytes) × (b ≡ 91 ∷ behind)
opened [] h = absurd (false≢true h)
opened (b ∷ bytes) h = (bytes, ap (λ x. x ∷ bytes) (sym (eqb-true 91 b h)))

like_code : (code : Option CodeValue) (information : Option Text) → is_like_code code information ≡ true → (t : Text) × (behind : Bytes) × (code ≡ None) × (information ≡ Some t) × (t.bytes ≡ 91 ∷ behind)
like_code None None h = absurd (false≢true h)
like_code (Some code) information h = absurd (false≢true h)
like_code None (Some t) h = let y = opened t.bytes h in (t, y.0, refl, refl, y.1)

pub bracket_is_said : BracketIsSaid
bracket_is_said (Continue o) h = let y = like_code o.code o.information h in (o, y.0, y.1, refl, y.2, y.3, y.4)
bracket_is_said (Done tag status o) h = let y = like_code o.code o.information h in (o, y.0, y.1, refl, y.2, y.3, y.4)
bracket_is_said (Data status o) h = let y = like_code o.code o.information h in (o, y.0, y.1, refl, y.2, y.3, y.4)
bracket_is_said other h = absurd (false≢true h)

long_literal : (ps : Pieces) → list_any is_too_long ps ≡ true → (front : Pieces) × (b : Bytes) × (behind : Pieces) × (ps ≡ front ++ Lit b ∷ behind) × (2 ^ 32 ≤ length b)
long_literal [] h = absurd (false≢true h)
long_literal (Raw b ∷ ps) h = let y = long_literal ps h in (Raw b ∷ y.0, y.1, y.2, ap (λ l. Raw b ∷ l) y.3, y.4)
long_literal (Lit b ∷ ps) h = elim (or_cases (not (nat_lt (length b) (2 ^ 32))) (list_any is_too_long ps) h) [
  | inl here ↦ ([], b, ps, refl, ltb-false (length b) (2 ^ 32) (not-true _ here))
  | inr later ↦ let y = long_literal ps later in (Lit b ∷ y.0, y.1, y.2, ap (λ l. Lit b ∷ l) y.3, y.4)
]

pub literal_is_too_long : LiteralIsTooLong
literal_is_too_long r h = long_literal (canonical_response r) h
