-- Texts, byte strings, characters and ranges.
use Rattle.std.proofs.Common.{◌≡◌, ℕ, zero, suc, ◌+◌, ◌-◌, ◌*◌, ◌<◌, Bool, true, false, cond, [], ◌∷◌, Ok, Err, Result, refl, sym, ap, ◌∙◌, arith, nat_lt, codes}
use Rattle.std.specs.Option.{option_map}
use Rattle.std.specs.Char.{encode_utf8}
use Rattle.std.specs.Str.{is_utf8}
use Rattle.std.proofs.lemmas.Bool.{and_parts, ltb-true}
use Rattle.base64.specs.Engines.{standard}
use Rattle.base64.specs.GeneralPurpose.{encode_of, decode_of, IsBytes}
use Rattle.base64.proofs.EngineFacts.{decode_of-encode_of}
use Rattle.serde_json.specs.Data.{Data}
use Rattle.imap_grammar.specs.Ranges.{Range}
use Rattle.imap_grammar.specs.Text.{Bytes, as_text, lent_text}
use Rattle.imap_json.specs.Forms.{string_json, number_json, list_json, pair_json, variant_json, option_json}
use Rattle.imap_json.specs.Texts.{text_json, are_bytes, bytes_json, char_json}
use Rattle.imap_json.specs.Ranges.{ends_json, range_json}
use Rattle.imap_json.specs.Laws.{IsFaithful}
use Rattle.imap_json.proofs.Faithful.{forms_apart, inner, string_in, numbers, options, plain_lists, pairs, is_null, IsSolid}

pub texts : IsFaithful text_json lent_text
texts = record { apart = λ a b h. ap as_text (ap string_in h); alike = λ t. refl }

pub ntexts : IsFaithful (option_json text_json) (option_map lent_text)
ntexts = options texts (λ t. refl)

-- ---- byte strings

below_256 : (b : ℕ) → nat_lt b 256 ≡ true → b < 256
below_256 b h = ltb-true b 256 h

each_byte : (b : Bytes) → are_bytes b ≡ true → IsBytes b
each_byte [] h i = omega arith
each_byte (x ∷ b) h zero = below_256 x (and_parts (nat_lt x 256) (are_bytes b) h).0
each_byte (x ∷ b) h (suc i) = each_byte b (and_parts (nat_lt x 256) (are_bytes b) h).1 i

abbrev bytes_or_none : {E : Type 0} → Result Bytes E → Bytes
bytes_or_none (Ok b) = b
bytes_or_none (Err e) = []

encoded_apart : (a b : Bytes) → IsBytes a → IsBytes b → encode_of standard a ≡ encode_of standard b → a ≡ b
encoded_apart a b p q h =
    ap bytes_or_none (sym (decode_of-encode_of standard a refl p) ∙ ap (decode_of standard) h ∙ decode_of-encode_of standard b refl q)

abbrev in_base64 : Bytes → Data
in_base64 b = variant_json (codes "base64") (string_json (encode_of standard b))

-- whether they are UTF-8, and whether they are bytes
abbrev raw_as : Bool → Bool → Bytes → Data
raw_as utf8 bytes b = cond utf8 (string_json b) (cond bytes (in_base64 b) (list_json number_json b))

raw_apart : (u v w z : Bool) (a b : Bytes) → (w ≡ true → IsBytes a) → (z ≡ true → IsBytes b) → raw_as u w a ≡ raw_as v z b → a ≡ b
raw_apart true true w z a b p q h = ap string_in h
raw_apart true false w true a b p q h = absurd (forms_apart _ _ refl h)
raw_apart true false w false a b p q h = absurd (forms_apart _ _ refl h)
raw_apart false true true z a b p q h = absurd (forms_apart _ _ refl h)
raw_apart false true false z a b p q h = absurd (forms_apart _ _ refl h)
raw_apart false false true true a b p q h = encoded_apart a b (p refl) (q refl) (ap (λ d. string_in (inner d)) h)
raw_apart false false true false a b p q h = absurd (forms_apart _ _ refl h)
raw_apart false false false true a b p q h = absurd (forms_apart _ _ refl h)
raw_apart false false false false a b p q h = (plain_lists numbers).apart a b h

pub byte_strings : IsFaithful bytes_json lent_text
byte_strings = record {
  apart = λ a b h. ap as_text (raw_apart (is_utf8 a.bytes) (is_utf8 b.bytes) (are_bytes a.bytes) (are_bytes b.bytes) a.bytes b.bytes (each_byte a.bytes) (each_byte b.bytes) h);
  alike = λ t. refl;
}

raw_solid : (u w : Bool) (b : Bytes) → is_null (raw_as u w b) ≡ false
raw_solid true w b = refl
raw_solid false true b = refl
raw_solid false false b = refl

pub bytes_solid : IsSolid bytes_json
bytes_solid t = raw_solid (is_utf8 t.bytes) (are_bytes t.bytes) t.bytes

-- ---- characters: a number is told by its bytes, whether it is a character or not

abbrev code_in : Bytes → ℕ
code_in (a ∷ []) = a
code_in (a ∷ b ∷ []) = (a - 192) * 64 + (b - 128)
code_in (a ∷ b ∷ c ∷ []) = (a - 224) * 4096 + (b - 128) * 64 + (c - 128)
code_in (a ∷ b ∷ c ∷ d ∷ []) = (a - 240) * 262144 + (b - 128) * 4096 + (c - 128) * 64 + (d - 128)
code_in other = 0

coded : (c : ℕ) (x y z : Bool) → nat_lt c 128 ≡ x → nat_lt c 2048 ≡ y → nat_lt c 65536 ≡ z → code_in (encode_utf8 c) ≡ c
unfolding encode_utf8
coded c true y z h k l = rw h refl
coded c false true z h k l = rw (h, k) (omega arith)
coded c false false true h k l = rw (h, k, l) (omega arith)
coded c false false false h k l = rw (h, k, l) (omega arith)

pub characters : IsFaithful char_json (λ c. c)
characters = record {
  apart = λ a b h. sym (coded a _ _ _ refl refl refl) ∙ ap (λ d. code_in (string_in d)) h ∙ coded b _ _ _ refl refl refl;
  alike = λ c. refl;
}

-- ---- ranges

ends : IsFaithful (pair_json number_json number_json) (λ p. (p.0, p.1))
ends = pairs numbers numbers

abbrev told_as : Bool → Range → Data
told_as spent r = cond spent (variant_json (codes "Spent") (ends_json r)) (ends_json r)

ranges_apart : (s t : Bool) (a b : Range) → told_as s a ≡ told_as t b → (s ≡ t) × (a.start ≡ b.start) × (a.end ≡ b.end)
ranges_apart true true a b h = let e = ends.apart (a.start, a.end) (b.start, b.end) (ap inner h) in (refl, ap (λ p. p.0) e, ap (λ p. p.1) e)
ranges_apart true false a b h = absurd (forms_apart _ _ refl h)
ranges_apart false true a b h = absurd (forms_apart _ _ refl h)
ranges_apart false false a b h = let e = ends.apart (a.start, a.end) (b.start, b.end) h in (refl, ap (λ p. p.0) e, ap (λ p. p.1) e)

pub ranges : IsFaithful range_json (λ r. r)
ranges = record {
  apart = λ a b h. let e = ranges_apart a.spent b.spent a b h in λ i. record { start = e.1 i; end = e.2 i; spent = e.0 i };
  alike = λ r. refl;
}
