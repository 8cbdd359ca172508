-- What each rule of numbers, strings, texts and sets takes spells its value.
use Rattle.std.proofs.Common.{◌≡◌, ℕ, ◌^◌, ◌++◌, false, None, Some, sym, ◌∙◌, ap, refl, inl, inr, append_assoc, codes}
use Prim.Native.String.{String}
use Rattle.imap_grammar.specs.Rule.{Rule, meaning}
use Rattle.imap_grammar.specs.Text.{Bytes, Text}
use Rattle.imap_grammar.specs.Classes.{is_quoted_char, is_astring_char, is_text_char}
use Rattle.imap_grammar.specs.Ranges.{Range}
use Rattle.imap_grammar.specs.Tags.{tag}
use Rattle.imap_grammar.specs.ReadBack.{Texts, Spells}
use Rattle.imap_grammar.specs.Spelling.{◌and◌, as_it_is, lossily, nil_or, spells_number, spells_literal, content_part, content_text, spells_quoted, spells_string, spells_astring, spells_nstring, spells_string_text, spells_quoted_text, spells_astring_text, spells_ntext, spells_line_text, spells_ends, spells_range, spells_ranges}
use Rattle.imap_grammar.proofs.ReadingWords.{exact}
use Rattle.imap_grammar.proofs.Spelling.{◌⨾ˢ◌, ◌▹ˢ◌, ◌◃ˢ◌, spells-gives, spells-wider, spells-test, ◌orˢ◌, ◌⊎ˢ◌, spells-names, spells-word, spells-tag, spells-crlf, spells-run0, spells-run1, spells-raw, spells-counted, spells-many, spells-list1}
use Rattle.imap_bytes.specs.Numbers.{digits, number_below, number, number_64}
use Rattle.imap_bytes.specs.Strings.{quoted_part, quoted_content, quoted, literal_header, literal, string, astring, nil, nil_or as nil_or_rule, nstring}
use Rattle.imap_bytes.specs.Texts.{utf8, string_utf8, quoted_utf8, astring_utf8, nstring_utf8, text}
use Rattle.imap_bytes.specs.Sets.{from_to, sequence_range, range_of_one, sequence_item, sequence_set}

-- ---- numbers and strings

module _ {A : Type 0} {a : Rule A} {S : A → Texts} where
  pub spells-nil_or : Spells a S → Spells (nil_or_rule a) (nil_or S)
  unfolding nil
  spells-nil_or h = spells-names None (spells-word "NIL") orˢ spells-gives Some h

pub spells-number_below : (bound : ℕ) → Spells (number_below bound) spells_number
unfolding meaning digits
spells-number_below bound = spells-test _ (record { consumed = λ m v rest y. let run = y.1 in (y.0, run.0.0, (run.0.1, run.1, y.2)) })

pub spells-number : Spells number spells_number
unfolding number
spells-number = spells-number_below (2 ^ 32)

pub spells-number_64 : Spells number_64 spells_number
unfolding number_64
spells-number_64 = spells-number_below (2 ^ 64)

pub spells-literal : Spells literal spells_literal
unfolding literal literal_header
spells-literal = spells-wider (spells-counted (spells-tag "{" ▹ˢ spells-number ◃ˢ (spells-tag "}" ⨾ˢ spells-crlf)))
    (λ v c h. regroup _ _ _ _ _ c h)
  where
    -- (P (Q (R S))) T as P (Q (R (S T)))
    regroup : (P Q R S T : Texts) (c : Bytes) → ((P and Q and R and S) and T) c → (P and Q and R and S and T) c
    regroup P Q R S T c h =
        let (x, t, e, p, ht) = h in
        let (x1, x2, e1, p1, h2) = p in
        let (y1, y2, e2, q1, h3) = h2 in
        let (z1, z2, e3, r1, s1) = h3 in (
          x1,
          y1 ++ (z1 ++ (z2 ++ t)),
          e ∙ ap (λ l. l ++ t) e1 ∙ append_assoc x1 x2 t ∙ ap (λ l. x1 ++ (l ++ t)) e2 ∙ ap (λ l. x1 ++ l) (append_assoc y1 y2 t)
              ∙ ap (λ l. x1 ++ (y1 ++ (l ++ t))) e3 ∙ ap (λ l. x1 ++ (y1 ++ l)) (append_assoc z1 z2 t),
          p1,
          (y1, z1 ++ (z2 ++ t), refl, q1, (z1, z2 ++ t, refl, r1, (z2, t, refl, s1, ht))),
        )

is_part : (k : String) → ((c : Bytes) → c ≡ codes k → content_part c) → Spells (tag k) (as_it_is content_part)
unfolding meaning
is_part k h = record { consumed = λ m v rest y. (v, y.0, (refl, h v (sym (exact (codes k) v y.1)))) }

spells-quoted_content : Spells quoted_content (as_it_is content_text)
unfolding quoted_content quoted_part
spells-quoted_content =
    spells-raw (spells-many
    (spells-wider (spells-run1 is_quoted_char) (λ v c h. (h.0, inl h.1)) orˢ is_part "\\\\" (λ c h. inr (inl h)) orˢ is_part "\\\"" (λ c h. inr (inr h))))
    (λ ps c h. (ps, h))

pub spells-quoted : Spells quoted spells_quoted
unfolding quoted
spells-quoted = spells-tag "\"" ▹ˢ spells-quoted_content ◃ˢ spells-tag "\""

pub spells-string : Spells string spells_string
unfolding string
spells-string = spells-quoted ⊎ˢ spells-literal

pub spells-astring : Spells astring spells_astring
unfolding astring
spells-astring = spells-run1 is_astring_char ⊎ˢ spells-string

pub spells-nstring : Spells nstring spells_nstring
unfolding nstring
spells-nstring = spells-nil_or spells-string

-- ---- texts

pub spells-utf8 : {a : Rule Bytes} {S : Bytes → Texts} → Spells a S → Spells (utf8 a) (lossily S)
unfolding meaning
spells-utf8 h = record { consumed = λ m v rest y. let x = h.consumed m y.0 rest y.1 in (x.0, x.1, (y.0, x.2, ap (λ (t : Text). t.bytes) y.2)) }

pub spells-string_utf8 : Spells string_utf8 spells_string_text
unfolding string_utf8
spells-string_utf8 = spells-utf8 spells-string

pub spells-quoted_utf8 : Spells quoted_utf8 spells_quoted_text
unfolding quoted_utf8
spells-quoted_utf8 = spells-utf8 spells-quoted

pub spells-astring_utf8 : Spells astring_utf8 spells_astring_text
unfolding astring_utf8
spells-astring_utf8 = spells-utf8 spells-astring

pub spells-nstring_utf8 : Spells nstring_utf8 spells_ntext
unfolding nstring_utf8
spells-nstring_utf8 = spells-nil_or spells-string_utf8

pub spells-text : Spells text spells_line_text
unfolding text
spells-text = spells-utf8 (spells-run0 is_text_char)

-- ---- sets

-- a range that is read is no spent one
abbrev pub spells_fresh : Range → Texts
spells_fresh r c = (r.spent ≡ false) × spells_ends r.start r.end c

pub spells-sequence_range : Spells sequence_range spells_fresh
unfolding sequence_range
spells-sequence_range = spells-gives from_to (spells-wider (spells-number ⨾ˢ spells-tag ":" ▹ˢ spells-number) (λ ends c h. (refl, h)))

pub spells-sequence_item : Spells sequence_item spells_range
unfolding sequence_item
spells-sequence_item = spells-wider spells-sequence_range (λ r c h. (h.0, inl h.1)) orˢ spells-gives range_of_one (spells-wider spells-number (λ n c h. (refl, inr (refl, h))))

pub spells-sequence_set : Spells sequence_set spells_ranges
unfolding sequence_set
spells-sequence_set = spells-list1 (spells-tag ",") spells-sequence_item
