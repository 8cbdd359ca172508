-- Where a reader of slices stopped, as a position; and what texts say that are spans.
use Rattle.std.proofs.Common.{◌≡◌, ℕ, ◌-◌, ◌≤◌, List, [], ◌∷◌, length, drop, map, Ok, refl, ap, arith}
use Rattle.imap_grammar.specs.Rule.{Rule}
use Rattle.imap_grammar.specs.Step.{step}
use Rattle.imap_grammar.specs.Text.{Bytes}
use Rattle.imap_grammar.specs.declared.at.span.Span.{Span}
use Rattle.imap_grammar.specs.Positions.{named_in}
use Rattle.imap_grammar.proofs.Agreement.{agrees, shrinks}
use Rattle.imap_grammar.proofs.Sliced.{ended}
use Rattle.imap_shared.specs.Spanned.{decoded_in}
use Rattle.imap_body_types.specs.declared.spans.SpannedText.TheVariants.{Part}
use Rattle.imap_body_types.specs.Spans.{text_in}

-- what a reader of k behind p left, as a position of m, where k is m
pub placed : {V : Type 0} (r : Rule V) (m k left : Bytes) (p : ℕ) (v : V) → k ≡ m → p ≤ length m → step r (drop p k) ≡ Ok (left, v)
    → (length left ≤ length k) × (step r (drop p m) ≡ Ok (drop (length k - length left) m, v)) × (p ≤ length k - length left) × (length k - length left ≤ length m)
placed r m k left p v same le e =
    let here : step r (drop p m) ≡ Ok (left, v) = rw same at e in
    let cut = shrinks r (drop p m) v left ((agrees r (drop p m)).yielded v left here) in
    let at = ended m (drop p m) left cut.0 p le refl cut.1 in
    rw same (at.0, rw at.1 here, at.2, omega arith)

pub spans_said : (m : Bytes) (spans : List Span) → map (text_in (named_in m)) (map (λ s. Part s) spans) ≡ map (decoded_in m) spans
spans_said m [] = refl
spans_said m (s ∷ spans) = ap (λ texts. decoded_in m s ∷ texts) (spans_said m spans)
