-- What spans that may be missing name, and where they lie.
use Rattle.std.proofs.Common.{◌≡◌, ℕ, Option, Some, None, refl}
use Rattle.std.specs.Prelude.{List, IfSome}
use Rattle.std.specs.Option.{option_map}
use Rattle.imap_grammar.specs.Text.{as_text}
use Rattle.imap_grammar.specs.declared.at.span.Span.{Span}
use Rattle.imap_grammar.specs.Positions.{Lies, maybe_in, named_in}
use Rattle.imap_body_types.specs.Spans.{Rests, bytes_in}
use Rattle.imap_body_types.proofs.Places.{bytes_rest, nothing_rests, something_rests}
use Rattle.imap_envelopes.specs.Spanned.{maybe_bytes_in}

pub bytes_seen : (m : List ℕ) (x : Option Span) → option_map as_text (maybe_in m x) ≡ maybe_bytes_in (named_in m) x
bytes_seen m None = refl
bytes_seen m (Some s) = refl

-- one that lies before a position rests on what does
pub maybe_rests : (p q : ℕ) (x : Option Span) → IfSome x (λ s. Lies p s q) → Rests maybe_bytes_in q x
maybe_rests p q None h = nothing_rests bytes_in q
maybe_rests p q (Some s) h = something_rests bytes_in q s (bytes_rest s q h.1 h.2)
