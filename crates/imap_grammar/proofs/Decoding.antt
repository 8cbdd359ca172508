-- What decoding makes of bytes that are UTF-8, and of others.
use Rattle.std.proofs.Common.{◌≡◌, ℕ, Bool, true, false, List, [], ◌++◌, Some, None, refl, ap, ◌∙◌, IsUtf8, encode_utf8_all}
use Rattle.std.specs.Str.{is_utf8}
use Rattle.std.specs.Str.Lossy.{utf8_lossy}
use Rattle.std.proofs.lemmas.Str.{IsUtf8-from_is_utf8, is_utf8-from_IsUtf8, utf8_lossy-IsUtf8}
use Rattle.bstr.specs.Utf8.{lossy_chars}
use Rattle.bstr.proofs.lemmas.LossyLemmas.{lossy_chars-utf8_lossy}
use Rattle.imap_grammar.specs.Text.{Text, decoded}
use Rattle.imap_grammar.specs.Rule.{only}

abbrev made : List ℕ → Bool → Text
made bytes borrowed = record { bytes = bytes; borrowed = borrowed }

pub utf8-decoded : (bytes text : List ℕ) → IsUtf8 bytes → text ≡ bytes → made text true ≡ decoded bytes
utf8-decoded bytes text u e = rw (e, is_utf8-from_IsUtf8 bytes u, utf8_lossy-IsUtf8 bytes u) refl

pub other-decoded : (bytes text : List ℕ) → ¬ (IsUtf8 bytes) → text ≡ utf8_lossy bytes → made text false ≡ decoded bytes
other-decoded bytes text n e = rw (e, not_utf8 (is_utf8 bytes) refl) refl
  where
    not_utf8 : (b : Bool) → is_utf8 bytes ≡ b → is_utf8 bytes ≡ false
    not_utf8 true q = absurd (n (IsUtf8-from_is_utf8 bytes q))
    not_utf8 false q = q

-- appended to an empty text
pub lossy_text : (bytes empty text : List ℕ) → empty ≡ [] → text ≡ empty ++ encode_utf8_all (lossy_chars bytes) → text ≡ utf8_lossy bytes
lossy_text bytes empty text none is = is ∙ ap (λ l. l ++ encode_utf8_all (lossy_chars bytes)) none ∙ lossy_chars-utf8_lossy bytes

pub utf8-kept : (bytes text : List ℕ) → IsUtf8 bytes → text ≡ bytes → Some text ≡ only is_utf8 bytes
utf8-kept bytes text u e = rw (e, is_utf8-from_IsUtf8 bytes u) refl

pub other-dropped : (bytes : List ℕ) → ¬ (IsUtf8 bytes) → None ≡ only is_utf8 bytes
other-dropped bytes n = rw (not_utf8 (is_utf8 bytes) refl) refl
  where
    not_utf8 : (b : Bool) → is_utf8 bytes ≡ b → is_utf8 bytes ≡ false
    not_utf8 true q = absurd (n (IsUtf8-from_is_utf8 bytes q))
    not_utf8 false q = q
