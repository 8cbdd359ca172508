-- What `==` tells of byte strings, and of positions.
use Rattle.std.proofs.Common.{rules, ◌≡◌, refl, nat_eq, ℕ, List, [], ◌∷◌, get_or, Global}
use Rattle.std.specs.Cow.{cow_slice_items}
use Rattle.std.specs.Cmp.Lexicographic.{pointwise}
use Rattle.std.specs.declared.borrow.CowSlice.{CowSlice}
use Rattle.std.specs.declared.borrow.CowSlice.TheVariants as slice
use Rattle.imap_grammar.specs.Text.{Text, as_text, lent_text}
use Rattle.imap_grammar.specs.Equality.{Tells}
use Rattle.imap_grammar.proofs.Seen.{text_tells, retold}
use Rattle.imap_grammar.specs.declared.at.span.Span.{Span}
use Rattle.imap_grammar.specs.contracts.at.span.SpanPartialEq.TheImpl as span_eq
use Rattle.imap_body_types.specs.Spans.{bytes_of}
use Rattle.imap_body_types.specs.declared.spans.SpannedText.{SpannedText}
use Rattle.imap_body_types.specs.declared.spans.SpannedText.TheVariants as spanned
use Rattle.imap_body_types.specs.contracts.spans.SpannedTextPartialEq.TheImpl as text_eq
use Rattle.imap_body_types.proofs.Equality.{field, named_tell}
use Rattle.imap_body.specs.SpannedAttributes.{place_of, place_of_text}

pub slices_tell : Tells (λ (x y : CowSlice ℕ Global). pointwise nat_eq (cow_slice_items x) (cow_slice_items y)) (λ x. lent_text (bytes_of x))
slices_tell = retold (λ x. as_text (cow_slice_items x)) (λ x. lent_text (bytes_of x)) same (named_tell (field cow_slice_items text_tells) as_text (λ t. t.bytes) (λ v. refl))
  where
    same : (x : CowSlice ℕ Global) → as_text (cow_slice_items x) ≡ lent_text (bytes_of x)
    same (slice.Borrowed s) = refl
    same (slice.Owned v) = refl

-- ---- positions: a span's two numbers, and the texts that are no spans, are had again from what they are seen as

pub spans_tell : Tells (span_eq.eq-value).it (λ s. s)
spans_tell = search rules

abbrev span_at : Text → Span
span_at t = record { start = get_or t.bytes 0 0; end = get_or t.bytes 1 0 }

pub places_tell : Tells (span_eq.eq-value).it (λ s. lent_text (place_of s))
places_tell = named_tell spans_tell (λ s. lent_text (place_of s)) span_at (λ s. refl)

spanned_texts_tell : Tells (text_eq.eq-value).it (λ x. x)
spanned_texts_tell = search rules

abbrev text_at : List ℕ → SpannedText
text_at (a ∷ b ∷ []) = spanned.Part (record { start = a; end = b })
text_at (a ∷ b ∷ c ∷ d ∷ []) = spanned.Text
text_at (a ∷ b ∷ c ∷ d ∷ e ∷ f ∷ []) = spanned.Rfc822
text_at (a ∷ b ∷ c ∷ d ∷ e ∷ f ∷ g ∷ []) = spanned.Message
text_at bytes = spanned.Multipart

pub text_places_tell : Tells (text_eq.eq-value).it (λ x. lent_text (place_of_text x))
text_places_tell = named_tell spanned_texts_tell (λ x. lent_text (place_of_text x)) (λ t. text_at t.bytes) back
  where
    back : (x : SpannedText) → text_at (place_of_text x).bytes ≡ x
    back (spanned.Part s) = refl
    back spanned.Text = refl
    back spanned.Message = refl
    back spanned.Rfc822 = refl
    back spanned.Multipart = refl
