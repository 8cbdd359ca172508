-- Sets of numbers, and atoms, read back.
use Rattle.std.proofs.Common.{◌≡◌, ℕ, ◌<◌, ◌^◌, ◌==◌, ◌||◌, Bool, true, false, not, [], ◌∷◌, ◌++◌, decimal, sym, ◌∙◌, ap, subst, refl, append_assoc, arith}
use Rattle.std.proofs.lemmas.Bool.{false≢true, or_left, ltb-true}
use Rattle.imap_grammar.specs.Meaning.{Denies, outside}
use Rattle.imap_grammar.specs.Rule.{gives, meaning}
use Rattle.imap_grammar.specs.Text.{Bytes}
use Rattle.imap_grammar.specs.Classes.{is_digit, is_atom_char}
use Rattle.imap_grammar.specs.Ranges.{Range, fresh}
use Rattle.imap_grammar.specs.Tags.{tag}
use Rattle.imap_grammar.specs.Pieces.{written, raw, range_text, ranges_text}
use Rattle.imap_grammar.specs.ReadBack.{ReadsBack, BeginsWith, as_is}
use Rattle.imap_grammar.proofs.Reading.{raw_on, test-has, reads-as, reads-test, reads-run1, reads-list1, reads-instead, denies-tag, starts}
use Rattle.imap_grammar.proofs.ReadingLists.{takes-text}
use Rattle.imap_bytes.specs.Numbers.{number}
use Rattle.imap_bytes.specs.Strings.{atom}
use Rattle.std.specs.Str.{is_utf8}
use Rattle.std.proofs.lemmas.List.{map-id}
use Rattle.imap_bytes.specs.Sets.{sequence_range, range_of_one, sequence_item, sequence_set}
use Rattle.imap_bytes.proofs.ReadingTexts.{not_digit, number_on}

pub number_bound : (m : Bytes) (n : ℕ) (rest : Bytes) → (meaning number).yields m n rest → n < 2 ^ 32
unfolding number
number_bound m n rest y = ltb-true n (2 ^ 32) (test-has _ _ m n rest y).1

-- a range, from its numbers
pub range_on : (a b : ℕ) → a < 2 ^ 32 → b < 2 ^ 32 → (t : Bytes) → BeginsWith not_digit t → (meaning sequence_range).yields (written (range_text (fresh a b)) ++ t) (fresh a b) t
unfolding meaning number sequence_range
range_on a b short short' t g =
    let front : written (range_text (fresh a b)) ++ t ≡ decimal a ++ (58 ∷ (decimal b ++ t)) = append_assoc (decimal a) (58 ∷ (decimal b ++ [])) t ∙ ap (λ l. decimal a ++ (58 ∷ l)) (raw_on (decimal b) t) in (
      (a, b),
      (
        58 ∷ (decimal b ++ t),
        subst (λ l. (meaning number).yields l a (58 ∷ (decimal b ++ t))) (sym front) (number_on (2 ^ 32) a (omega arith) short _ refl),
        ((58 ∷ [], b), (decimal b ++ t, (refl, refl), number_on (2 ^ 32) b (omega arith) short' t g), refl),
      ),
      refl,
    )

-- what is read as a range is fresh, and its ends are below the bound
pub range_bounds : (m : Bytes) (r : Range) (rest : Bytes) → (meaning sequence_range).yields m r rest → (r ≡ fresh r.start r.end) × (r.start < 2 ^ 32) × (r.end < 2 ^ 32)
unfolding meaning sequence_range
range_bounds m r rest y =
    let ends = y.1 in
    let first = number_bound m y.0.0 ends.0 ends.1 in
    let last = number_bound ends.2.1.0 y.0.1 rest (subst (λ n. (meaning number).yields ends.2.1.0 n rest) ends.2.2 ends.2.1.2) in
    subst (λ w. (w ≡ fresh w.start w.end) × (w.start < 2 ^ 32) × (w.end < 2 ^ 32)) y.2 (refl, first, last)

pub reads-sequence_range : ReadsBack sequence_range as_is range_text (BeginsWith not_digit)
reads-sequence_range = record {
  again = λ m v rest y f t g.
      let (is, short, short') = range_bounds m v rest y in
      subst (λ w. (meaning sequence_range).yields (written (range_text w) ++ t) w t) (sym is) (range_on v.start v.end short short' t g);
}

-- a number alone is written as a range
pub reads-sequence_item : ReadsBack sequence_item as_is range_text (BeginsWith not_digit)
unfolding meaning sequence_item
reads-sequence_item = reads-instead (gives range_of_one number) reads-sequence_range
    (λ m v rest y f t g. let n = number_bound m y.0 rest y.1 in subst (λ w. (meaning sequence_range).yields (written (range_text w) ++ t) w t) y.2 (range_on y.0 y.0 n n t g))

-- what a range goes on with: a digit or `:`; what a set does: also `,`
abbrev pub in_range : ℕ → Bool
in_range b = is_digit b || (58 == b)

abbrev pub in_set : ℕ → Bool
in_set b = in_range b || (44 == b)

pub neither : (a b : Bool) → not (a || b) ≡ true → (not a ≡ true) × (not b ≡ true)
neither true b h = absurd (false≢true h)
neither false b h = (refl, h)

pub range_digits : (t : Bytes) → BeginsWith (outside in_range) t → BeginsWith not_digit t
range_digits = starts (outside in_range) not_digit (λ b h. (neither (is_digit b) (58 == b) h).0)

pub range_colon : (t : Bytes) → BeginsWith (outside in_range) t → Denies (meaning (tag ":")) t
range_colon [] g = absurd (false≢true g)
range_colon (b ∷ t) g = denies-tag _ _ _ (or_left (not (58 == b)) _ (neither (is_digit b) (58 == b) g).1)

pub set_range : (t : Bytes) → BeginsWith (outside in_set) t → BeginsWith (outside in_range) t
set_range = starts (outside in_set) (outside in_range) (λ b h. (neither (in_range b) (44 == b) h).0)

pub set_comma : (t : Bytes) → BeginsWith (outside in_set) t → Denies (meaning (tag ",")) t
set_comma [] g = absurd (false≢true g)
set_comma (b ∷ t) g = denies-tag _ _ _ (or_left (not (44 == b)) _ (neither (in_range b) (44 == b) g).1)

pub reads-sequence_set : ReadsBack sequence_set as_is ranges_text (BeginsWith (outside in_set))
unfolding sequence_set
reads-sequence_set = reads-as (reads-list1 (takes-text ",") reads-sequence_item (λ y t. tt) (λ t. refl) (λ t g. range_digits t (set_range t g)) set_comma) map-id

-- ---- atoms

pub reads-atom : ReadsBack atom as_is raw (BeginsWith (outside is_atom_char))
unfolding atom
reads-atom = reads-test is_utf8 (reads-run1 is_atom_char) (λ v e. e)
