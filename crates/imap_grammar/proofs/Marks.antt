-- A text's mark is whether it is borrowed. Where all texts of a value are marked alike twice, the later mark stays.
use Rattle.std.proofs.Common.{◌≡◌, Bool, [], ◌∷◌, None, Some, map, refl, ap, ap₂}
use Rattle.std.specs.Option.{option_map}
use Rattle.imap_grammar.specs.Text.{Text}

abbrev pub marked : Bool → Text → Text
marked b t = record { bytes = t.bytes; borrowed = b }

-- marked with b, and then with a
module _ (a b : Bool) where
  abbrev pub LaterStays : {V : Type 0} → ((Text → Text) → V → V) → Type 0
  LaterStays {V} changed = (v : V) → changed (marked a) (changed (marked b) v) ≡ changed (marked a) v

  pub lists : {V : Type 0} (changed : (Text → Text) → V → V) → LaterStays changed → LaterStays (λ h. map (changed h))
  lists changed stays [] = refl
  lists changed stays (v ∷ vs) = ap₂ (λ x xs. x ∷ xs) (stays v) (lists changed stays vs)

  pub options : {V : Type 0} (changed : (Text → Text) → V → V) → LaterStays changed → LaterStays (λ h. option_map (changed h))
  options changed stays None = refl
  options changed stays (Some v) = ap (λ x. Some x) (stays v)

  pub texts : LaterStays (λ h. map h)
  texts = lists (λ h. h) (λ t. refl)

  pub ntext : LaterStays (λ h. option_map h)
  ntext = options (λ h. h) (λ t. refl)
