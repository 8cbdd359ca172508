-- What form a byte string has.
use Rattle.std.proofs.Common.{◌≡◌, ℕ, suc, ◌<◌, Bool, true, false, [], ◌∷◌, get_or, nat_lt, Fits, w8, refl, arith}
use Rattle.std.specs.Str.{IsUtf8, is_utf8}
use Rattle.std.proofs.lemmas.Bool.{and_from, lt-ltb}
use Rattle.std.proofs.lemmas.Str.{IsUtf8-from_is_utf8, is_utf8-from_IsUtf8}
use Rattle.imap_grammar.specs.Text.{Bytes}
use Rattle.imap_json.specs.Texts.{are_bytes}

pub is_text : (b : Bytes) → IsUtf8 b → is_utf8 b ≡ true
is_text b h = is_utf8-from_IsUtf8 b h

by_test : (b : Bytes) (x : Bool) → is_utf8 b ≡ x → ¬ (IsUtf8 b) → x ≡ false
by_test b true e h = absurd (h (IsUtf8-from_is_utf8 b e))
by_test b false e h = refl

pub is_no_text : (b : Bytes) → ¬ (IsUtf8 b) → is_utf8 b ≡ false
is_no_text b h = by_test b (is_utf8 b) refl h

pub all_bytes : (b : Bytes) → ((k : ℕ) → Fits w8 (get_or b k 0)) → are_bytes b ≡ true
all_bytes [] h = refl
all_bytes (x ∷ b) h = let first : x < 256 = let fits = h 0 in omega (arith, fits.fits) in and_from (nat_lt x 256) (are_bytes b) (lt-ltb x 256 first) (all_bytes b (λ k. h (suc k)))
