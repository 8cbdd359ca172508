-- A text without its first character.
use Rattle.std.proofs.Common.{◌≡◌, ℕ, List, [], ◌∷◌, ◌++◌, length, Option, Some, None, sym, ap, ◌∙◌, IsUtf8, encode_utf8, encode_utf8_all, drop, arith}
use Rattle.std.specs.Str.Iter.{chars_rest, chars_steps}
use Rattle.std.specs.declared.str.Chars.{Chars}
use Rattle.std.proofs.lemmas.Str.{chars_past_char, IsUtf8-past_char, encodes-chars, chars-nil}
use Rattle.imap_proto.specs.Outcomes.{bytes_after_first}

pub behind_first : (bytes rest : List ℕ) (c : ℕ) → IsUtf8 bytes → bytes ≡ encode_utf8 c ++ rest → rest ≡ bytes_after_first bytes
behind_first bytes rest c u e = sym (encodes-chars rest (IsUtf8-past_char bytes rest c u e)) ∙ ap (λ cs. encode_utf8_all (drop 1 cs)) (sym (chars_past_char bytes rest c u e))

pub behind_none : (bytes : List ℕ) → length bytes ≡ 0 → bytes ≡ bytes_after_first bytes
behind_none [] e = sym (ap (λ cs. encode_utf8_all (drop 1 cs)) chars-nil)
behind_none (b ∷ bytes) e = absurd (omega arith)

-- what one call of an iterator of characters leaves
pub next_leaves : (before after : Chars) (found : Option ℕ) → IsUtf8 (chars_rest before) → chars_steps before found after → chars_rest after ≡ bytes_after_first (chars_rest before)
next_leaves before after (Some c) u h = behind_first (chars_rest before) (chars_rest after) c u h.0
next_leaves before after None u h = ap chars_rest h.0.1 ∙ behind_none (chars_rest before) h.0.0
